-- The number that says whether a disk was still open: what two images agree in that differ in it alone, and what 27 tells.
use Rattle.std.specs.Prelude.{ℕ, ◌+◌, ◌≤◌, ◌<◌, ◌≡◌, List, true, false, ◌||◌, length, get_or}
use Rattle.base.specs.Strings.{same_at}
use Rattle.format.specs.Kdmv.{kdmv_magic, kdmv_fields, at_end, footer_at}
use Rattle.format.specs.Header.{header_of}
use Rattle.format.specs.Check.{check}
use Rattle.format.specs.Chain.{unlike}
use Rattle.format.specs.Collapse.{not_collapsible, still_open}
use Rattle.format.specs.AnswerParts.{accepted_as}

-- ---- two images
-- length and every byte but the n from `at` on
pub record SameBut (s t : List ℕ) (at n : ℕ) : Type 0 where
  pub long : length s ≡ length t
  pub before : (i : ℕ) → i < at → get_or s i 0 ≡ get_or t i 0
  pub after : (i : ℕ) → at + n ≤ i → get_or s i 0 ≡ get_or t i 0

-- length and every byte but byte 72 of sector 0 and of the footer; the second image has one byte in both places
pub record SameButTwice (s t : List ℕ) : Type 0 where
  pub long : length s ≡ length t
  pub same : (i : ℕ) → (i ≡ 72 → ⊥) → (i ≡ footer_at s + 72 → ⊥) → get_or s i 0 ≡ get_or t i 0
  pub again : get_or t (footer_at s + 72) 0 ≡ get_or t 72 0

-- the check accepts it, whatever its sizes
abbrev pub SomeAccepted : List ℕ → Type 0
SomeAccepted s = (capacity : ℕ) × (grain_size : ℕ) × (check s ≡ accepted_as capacity grain_size)

-- t is s but for its dirty number: of KDMV without a footer, accepted or not; of an accepted KDMV image with a footer, where
-- both sectors have it
pub data OtherNumber (s t : List ℕ) : Type 0 where
  kdmv : SameBut s t 72 1 → same_at s 0 kdmv_magic ≡ true → at_end (kdmv_fields s) ≡ false → OtherNumber s t
  footer : SameButTwice s t → same_at s 0 kdmv_magic ≡ true → at_end (kdmv_fields s) ≡ true → SomeAccepted s → OtherNumber s t

-- ---- what 27 tells

-- of one image: it is accepted, 23 lets it through, and it was still open
pub record OpenImage (s : List ℕ) : Type 0 where
  pub checked : SomeAccepted s
  pub collapsible : not_collapsible (header_of s) ≡ false
  pub dirty : still_open (header_of s) ≡ true

-- of two: both are accepted, 23 and 22 let them through, and one of them was still open
pub record OpenImages (lower upper : List ℕ) : Type 0 where
  pub lower_checked : SomeAccepted lower
  pub upper_checked : SomeAccepted upper
  pub collapsible : (not_collapsible (header_of lower) || not_collapsible (header_of upper)) ≡ false
  pub alike : unlike (header_of lower) (header_of upper) ≡ false
  pub dirty : (still_open (header_of lower) || still_open (header_of upper)) ≡ true
