-- What a check that accepts has found on its way.
use Prim.Native.Nat.{ℕ}
use mathlib.Core.Path.{◌≡◌, refl}
use mathlib.Core.List.{List}
use mathlib.Core.Bool.{Bool, false}
use native.Mathlib.Omega.{arith}
use Rattle.base.specs.Pick.{pick}
use Rattle.format.specs.Areas.{areas, meet}
use Rattle.format.specs.Check.{misplaced, lowest_past, lowest_bad_marker, copies_differ, unless_grain, check_apart}
use Rattle.format.specs.Check.{check_copies}
use Rattle.format.specs.Check.{check_grains, check_layout, check_from}
use Rattle.format.specs.declared.Header.{Header}
use Rattle.format.specs.declared.Refusal.{Refusal}
use Rattle.format.specs.declared.Refusal.TheVariants.{GrainPast, Marker}
use Rattle.format.specs.Judged.{Passed}
use Rattle.format.proofs.Picked.{passed}
use Rattle.std.specs.Prelude.{Result, Ok, Err, Option, Some, None}
use Rattle.format.specs.declared.Shape.{Shape}
use Rattle.format.specs.AnswerParts.{accepted_as}
use mathlib.Core.Path.{sym}
use Rattle.format.proofs.SameParts.{same_sizes}

-- ---- its steps
pub accepted_past : (b : Bool) (r : Refusal) (y : Result Shape Refusal) (c g : ℕ) → pick b (Err r) y ≡ accepted_as c g
    → (b ≡ false) × (y ≡ accepted_as c g)
accepted_past b r y c g e = passed b (Err r) y (accepted_as c g) (λ q. let z : ◌≡◌ {A = ℕ} 0 1 = cc in omega arith) e

accepted_grain : (l : Option ℕ) (refusal : ℕ → Refusal) (y : Result Shape Refusal) (c g : ℕ) → unless_grain l refusal y
    ≡ accepted_as c g
    → (l ≡ None) × (y ≡ accepted_as c g)
unfolding unless_grain
accepted_grain None refusal y c g e = (refl, e)
accepted_grain (Some k) refusal y c g e = let z : ◌≡◌ {A = ℕ} 0 1 = cc in absurd (omega arith)

-- ---- 1 to 7
pub header_passed : (s : List ℕ) (a : Result Header Refusal) (c g : ℕ) → check_from s a ≡ accepted_as c g
    → (h : Header) × (a ≡ Ok h) × (check_layout s h ≡ accepted_as c g)
unfolding check_from
header_passed s (Err r) c g e = let z : ◌≡◌ {A = ℕ} 0 1 = cc in absurd (omega arith)
header_passed s (Ok h) c g e = (h, refl, e)

-- ---- 8 to 12
pub layout_passed : (s : List ℕ) (h : Header) (c g : ℕ) → check_layout s h ≡ accepted_as c g → Passed s h c g
unfolding check_layout check_grains check_copies check_apart
layout_passed s h c g e =
    let a = accepted_past (misplaced s h) _ _ c g e in
    let b = accepted_grain (lowest_past s h) GrainPast _ c g a.1 in
    let d = accepted_grain (lowest_bad_marker s h) Marker _ c g b.1 in
    let i = accepted_past (copies_differ s h) _ _ c g d.1 in
    let j = accepted_past (meet (areas s h)) _ _ c g i.1 in
    let same = same_sizes _ _ c g j.1 in
    record {
      places = a.0;
      grains = b.0;
      markers = d.0;
      copies = i.0;
      apart = j.0;
      capacity = sym same.0;
      size = sym same.1;
    }
