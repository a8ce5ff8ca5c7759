-- Refusals 8 to 11 in their order, each premise as the code gives it.
use Prim.Native.Nat.{ℕ}
use mathlib.Core.Path.{◌≡◌, refl, sym, ap, ◌∙◌}
use mathlib.Core.List.{List}
use mathlib.Core.Bool.{Bool, true, false}
use Rattle.base.specs.Pick.{pick}
use Rattle.base.proofs.Steps.{cond_all}
use Rattle.format.specs.Areas.{areas, meet}
use Rattle.format.specs.Check.{misplaced, lowest_misplaced, copies_differ, unless_grain, check_apart, check_copies}
use Rattle.format.specs.Check.{check_grains}
use Rattle.format.specs.Check.{check_layout}
use Rattle.format.specs.CheckIn.{came_to_marking}
use Rattle.format.specs.declared.Header.{Header}
use Rattle.format.specs.declared.MisplacedPart.{MisplacedPart}
use Rattle.format.specs.declared.Refusal.{Refusal}
use Rattle.format.specs.declared.Refusal.TheVariants.{Misplaced, GrainPast, Marker, CopiesDiffer}
use Rattle.format.proofs.CameToMarking.{Early}
use Rattle.accept.specs.Unmarked.{unmarked_of}
use Rattle.std.specs.Prelude.{Result, Ok, Err, Option, Some, None}
use Rattle.format.specs.declared.Shape.{Shape}

pub early_refused : (x : Refusal) (h : Header) → Early x → unmarked_of (Err x) h ≡ Err x
unfolding unmarked_of pick
early_refused x h e = rw e

-- what 12 is judged over
pub apart_known : (s : List ℕ) (h : Header) → Ok h ≡ unmarked_of (check_apart s h) h
unfolding check_apart unmarked_of came_to_marking pick
apart_known s h = cond_all (λ a. Ok h ≡ unmarked_of a h) (meet (areas s h)) _ _ (λ t. refl) (λ n. refl)

-- ---- one rule, broken or not
module _ (z : Result Header Refusal) (h : Header) (b r : Bool) (is : r ≡ b) (y : Result Shape Refusal) where
  rule_broken : (x : Refusal) → Early x → r ≡ true → z ≡ Err x → z ≡ unmarked_of (pick b (Err x) y) h
  unfolding pick
  rule_broken x e t q = rw (← is, t) (q ∙ sym (early_refused x h e))

  rule_kept : (x : Refusal) → r ≡ false → z ≡ unmarked_of y h → z ≡ unmarked_of (pick b (Err x) y) h
  unfolding pick
  rule_kept x t q = rw (← is, t) q

-- ---- the lowest grain at fault, or none
module _ (z : Result Header Refusal) (h : Header) (l e : Option ℕ) (is : l ≡ e) (y : Result Shape Refusal)
    (refusal : ℕ → Refusal) where
  grain_found : (g : ℕ) → Early (refusal g) → l ≡ Some g → z ≡ Err (refusal g)
      → z ≡ unmarked_of (unless_grain e refusal y) h
  unfolding unless_grain
  grain_found g n t q = rw (← is, t) (q ∙ sym (early_refused (refusal g) h n))

  pub grain_none : l ≡ None → z ≡ unmarked_of y h → z ≡ unmarked_of (unless_grain e refusal y) h
  unfolding unless_grain
  grain_none t q = rw (← is, t) q

-- ---- 8 to 11
module _ (s : List ℕ) (h : Header) (z : Result Header Refusal) where
  module _ (r : Bool) where
    pub copies_broken : r ≡ copies_differ s h → r ≡ true → z ≡ Err CopiesDiffer → z ≡ unmarked_of (check_copies s h) h
    unfolding check_copies came_to_marking
    copies_broken is t q = rule_broken z h (copies_differ s h) r is (check_apart s h) CopiesDiffer refl t q

    pub copies_kept : r ≡ copies_differ s h → r ≡ false → z ≡ Ok h → z ≡ unmarked_of (check_copies s h) h
    unfolding check_copies
    copies_kept is t q = rule_kept z h (copies_differ s h) r is (check_apart s h) CopiesDiffer t (q ∙ apart_known s h)

    pub places_broken : (p : MisplacedPart) → r ≡ misplaced s h → r ≡ true → p ≡ lowest_misplaced s h
        → z ≡ Err (Misplaced p)
        → z ≡ unmarked_of (check_layout s h) h
    unfolding check_layout came_to_marking
    places_broken p is t low q =
        rw (← low) (rule_broken z h (misplaced s h) r is (check_grains s h) (Misplaced p) refl t q)

    pub places_kept : r ≡ misplaced s h → r ≡ false → z ≡ unmarked_of (check_grains s h) h
        → z ≡ unmarked_of (check_layout s h) h
    unfolding check_layout
    places_kept is t q = rule_kept z h (misplaced s h) r is (check_grains s h) _ t q

  module _ (l e : Option ℕ) (is : l ≡ e) (y : Result Shape Refusal) (g : ℕ) (t : l ≡ Some g) where
    pub past_found : z ≡ Err (GrainPast g) → z ≡ unmarked_of (unless_grain e GrainPast y) h
    unfolding came_to_marking
    past_found q = grain_found z h l e is y GrainPast g refl t q

    pub marker_found : z ≡ Err (Marker g) → z ≡ unmarked_of (unless_grain e Marker y) h
    unfolding came_to_marking
    marker_found q = grain_found z h l e is y Marker g refl t q
