-- A sector of one extent: each arm of a match, and the sums and magics that the code asks for.
use Prim.Native.Nat.{ℕ, ◌+◌, ◌≤◌, ◌<◌}
use mathlib.Core.Path.{◌≡◌, refl, sym, ◌∙◌}
use mathlib.Core.List.{List, [], ◌∷◌}
use mathlib.Core.Bool.{Bool, true, false, ◌&&◌, and-false}
use native.Mathlib.Omega.{arith}
use lib.Dec.{ltb, eqb}
use lib.ListN.{length, get_or, get_or-eq_default}
use borrow.Author.Tests.{ltb-false, eq-eqb, ne_eqb}
use Rattle.base.specs.Pick.{pick}
use Rattle.base.specs.Strings.{same_at}
use Rattle.descriptor.specs.declared.Extent.{Extent}
use Rattle.format.specs.Geometry.{file_sectors}
use Rattle.format.specs.Areas.{area, ends_past}
use Rattle.format.specs.Check.{check}
use Rattle.format.specs.Source.{sector_lookup}
use Rattle.format.specs.declared.Source.{Source}
use Rattle.format.specs.declared.Refusal.{Refusal}
use Rattle.disk.specs.Split.{source_in, looked_up, in_accepted}
use Rattle.std.specs.Prelude.{Result, Ok, Err}
use Rattle.format.specs.declared.Shape.{Shape}
use Rattle.format.specs.declared.LayerSource.{LayerSource}
use Rattle.disk.specs.declared.SplitRefusal.{SplitRefusal}
use Rattle.format.specs.AnswerParts.{accepted_as}
use Rattle.disk.specs.declared.SplitRefusal.TheVariants.{Image, CapacityDiffers}

-- ---- at an arm of a match on what the lookup says
module _ (i : ℕ) (looked : Result Source Refusal) where
  pub looked_found : (source : Source) (z : Result LayerSource SplitRefusal) → looked ≡ Ok source → z ≡ source_in i source
      → z ≡ looked_up i looked
  unfolding looked_up
  looked_found source z e q = rw e q

  pub looked_refused : (r : Refusal) → looked ≡ Err r → Err (Image i r) ≡ looked_up i looked
  unfolding looked_up
  looked_refused r e = rw e

-- ---- and on what the check says
module _ (s : List ℕ) (e : Extent) (i o : ℕ) (judged : Result Shape Refusal) where
  pub judged_refused : (r : Refusal) → judged ≡ Err r → Err (Image i r) ≡ in_accepted s e i o judged
  unfolding in_accepted
  judged_refused r q = rw q

  module _ (shape : Shape) (q : judged ≡ Ok shape) where
    pub judged_same : (z : Result LayerSource SplitRefusal) (a : Result Source Refusal) → shape.capacity ≡ e.sectors → a
        ≡ sector_lookup s o
        → z ≡ looked_up i a
        → z ≡ in_accepted s e i o judged
    unfolding in_accepted pick
    judged_same z a h l t = rw (q, eq-eqb shape.capacity e.sectors h, ← l) t

    pub judged_differs : (shape.capacity ≡ e.sectors → ⊥) → Err (CapacityDiffers i) ≡ in_accepted s e i o judged
    unfolding in_accepted pick
    judged_differs n = rw (q, ne_eqb shape.capacity e.sectors n)

-- ---- an image, whose check was asked before
pub checked_image : (s : List ℕ) (e : Extent) (i o : ℕ) (z : Result LayerSource SplitRefusal) (judged : Result Shape Refusal)
    → judged ≡ check s
    → z ≡ in_accepted s e i o judged → z ≡ in_accepted s e i o (check s)
checked_image s e i o z judged q t = rw (← q) t

-- ---- plain sectors
pub plain_past : {r : Bool} (s : List ℕ) (offset sectors f : ℕ) → r ≡ ltb f (offset + sectors) → f ≡ file_sectors s
    → r ≡ ends_past (file_sectors s) (area offset sectors)
plain_past s offset sectors f e q = rw (← q) e

-- where all lie in the file, the number of each fits in a word
pub plain_fits : {r : Bool} (s : List ℕ) (offset sectors o f : ℕ) → r ≡ ltb f (offset + sectors) → r ≡ false
    → f ≡ file_sectors s
    → o < sectors → length s < 0x10000000000000000 → offset + o < 0x10000000000000000
plain_fits s offset sectors o f e n q l b = omega (arith, ltb-false f (offset + sectors) (sym e ∙ n))

-- ---- a file of under four bytes begins with no magic
pub short_magic : (s : List ℕ) (a b c x : ℕ) → (0 ≡ x → ⊥) → length s < 4 → false ≡ same_at s 0 (a ∷ b ∷ c ∷ x ∷ [])
unfolding same_at
short_magic s a b c x n h =
    let z : get_or s 3 0 ≡ 0 = get_or-eq_default s 0 (omega arith) in
    rw (z, ne_eqb 0 x n) (sym (ends_false (eqb (get_or s 0 0) a) (eqb (get_or s 1 0) b) (eqb (get_or s 2 0) c)))
  where
    ends_false : (p q r : Bool) → (p && (q && (r && false))) ≡ false
    ends_false p q r = rw (and-false r, and-false q, and-false p)
