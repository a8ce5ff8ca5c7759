-- The lab profile (request A11): what is published has one form, which is its own normal form of grain size 128.
use Rattle.std.specs.Prelude.{ℕ, suc, ◌%◌, List, [], ◌∷◌, Bool, true, false, not, ◌&&◌, ◌||◌, eqb}
use Rattle.base.specs.Pick.{pick}
use Rattle.format.specs.Header.{header_of}
use Rattle.format.specs.Check.{check}
use Rattle.format.specs.Collapse.{normal_form, not_collapsible, still_open}
use Rattle.format.specs.declared.Header.{Header}
use Rattle.format.specs.declared.Refusal.TheVariants.{NotCollapsible, StillOpen, NotNormal, ProfileSizes}
use Rattle.std.specs.Prelude.{Result, Ok, Err}
use Rattle.format.specs.declared.Shape.{Shape}
use Rattle.format.specs.declared.Refusal.{Refusal}
use Rattle.format.specs.AnswerParts.{accepted_as}

-- ---- two files
-- every byte and the length
unfoldable pub same_file : List ℕ → List ℕ → Bool
same_file [] [] = true
same_file [] (y ∷ b) = false
same_file (x ∷ a) [] = false
same_file (x ∷ a) (y ∷ b) = eqb x y && same_file a b

-- the first byte that differs; where one is a start of the other, the shorter length
unfoldable pub first_difference : List ℕ → List ℕ → ℕ
first_difference [] b = 0
first_difference (x ∷ a) [] = 0
first_difference (x ∷ a) (y ∷ b) = pick (eqb x y) (suc (first_difference a b)) 0

-- ---- what the profile refuses
-- 47: grain size 128, and a capacity that is a multiple of 128
abbrev pub profile_sizes_broken : Header → Bool
profile_sizes_broken h = not (eqb h.grain_size 128) || not (eqb (h.capacity % 128) 0)

-- 42, with its place, where an image and its normal form are not the same file
unfoldable pub profile_form : Header → List ℕ → List ℕ → Result Shape Refusal
profile_form h image form =
    pick (same_file image form) (accepted_as h.capacity h.grain_size) (Err (NotNormal (first_difference image form)))

-- where the image is accepted: 23, 27, 47, 42
unfoldable pub profile_from : Header → List ℕ → List ℕ → Result Shape Refusal
profile_from h image form =
    pick (not_collapsible h) (Err NotCollapsible)
    (pick (still_open h) (Err StillOpen)
    (pick (profile_sizes_broken h) (Err ProfileSizes) (profile_form h image form)))

unfoldable pub profile_if_accepted : Result Shape Refusal → Result Shape Refusal → Result Shape Refusal
profile_if_accepted (Err r) a = Err r
profile_if_accepted (Ok sizes) a = a

-- the image's check, 23, 27, 47, 42
abbrev pub profile : List ℕ → Result Shape Refusal
profile s = profile_if_accepted (check s) (profile_from (header_of s) s (normal_form s))
