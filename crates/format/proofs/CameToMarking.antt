-- What a check that came as far as 12 has found on its way.
use Prim.Native.Nat.{ℕ}
use mathlib.Core.Path.{◌≡◌, refl, sym, ◌∙◌}
use mathlib.Core.List.{List}
use mathlib.Core.Bool.{Bool, true, false, false≢true}
use native.Mathlib.Omega.{arith}
use borrow.Author.Tests.{ne_eqb}
use Rattle.base.specs.Pick.{pick}
use Rattle.base.proofs.Steps.{cond_all}
use Rattle.format.specs.Header.{header_of, judge_of}
use Rattle.format.specs.Areas.{areas, meet}
use Rattle.format.specs.Check.{misplaced, lowest_past, lowest_bad_marker, copies_differ, unless_grain, check_apart}
use Rattle.format.specs.Check.{check_copies}
use Rattle.format.specs.Check.{check_grains, check_layout, check_from, check_of}
use Rattle.format.specs.CheckIn.{came_to_marking}
use Rattle.format.specs.Answers.{number}
use Rattle.format.specs.Judged.{Unmarked}
use Rattle.format.specs.declared.Taken.{Taken}
use Rattle.format.specs.declared.Header.{Header}
use Rattle.format.specs.declared.Refusal.{Refusal}
use Rattle.format.specs.declared.Refusal.TheVariants.{GrainPast, Marker}
use Rattle.format.proofs.HeaderJudged.{taken_header}
use Rattle.format.proofs.HeaderRefusals.{taken_refuses, not_between}
use Rattle.format.proofs.HeaderSound.{taken_sound}
use Rattle.std.specs.Prelude.{Result, Ok, Err, Option, Some, None}
use Rattle.format.specs.declared.Shape.{Shape}

-- a refusal that is not 12
abbrev pub Early : Refusal → Type 0
Early x = came_to_marking (Err x) ≡ false

pub header_early : (taken : Taken) (s : List ℕ) (r : Refusal) → judge_of taken s ≡ Err r → Early r
unfolding came_to_marking
header_early taken s r j =
    ne_eqb (number r) 12 (not_between s r (taken_refuses s taken r j) 12 (omega arith) (omega arith))

-- 12 comes last
pub apart_came : (s : List ℕ) (h : Header) → came_to_marking (check_apart s h) ≡ true
unfolding check_apart came_to_marking
apart_came s h = cond_all (λ a. came_to_marking a ≡ true) (meet (areas s h)) _ _ (λ t. refl) (λ n. refl)

-- ---- one rule, and the lowest grain
rule_came : (b : Bool) (x : Refusal) (y : Result Shape Refusal) → Early x → came_to_marking (pick b (Err x) y) ≡ true
    → (b ≡ false) × (came_to_marking y ≡ true)
unfolding pick
rule_came true x y n e = absurd (false≢true (sym n ∙ e))
rule_came false x y n e = (refl, e)

grain_came : (l : Option ℕ) (refusal : ℕ → Refusal) (y : Result Shape Refusal) → ((g : ℕ) → Early (refusal g))
    → came_to_marking (unless_grain l refusal y) ≡ true → (l ≡ None) × (came_to_marking y ≡ true)
unfolding unless_grain
grain_came (Some g) refusal y n e = absurd (false≢true (sym (n g) ∙ e))
grain_came None refusal y n e = (refl, e)

-- ---- 1 to 11
module _ (taken : Taken) (s : List ℕ) where
  layout_came : (h : Header) → judge_of taken s ≡ Ok h → came_to_marking (check_layout s h) ≡ true → Unmarked taken s h
  unfolding check_layout check_grains check_copies unless_grain check_from came_to_marking pick
  layout_came h j e =
      let a = rule_came (misplaced s h) _ _ refl e in
      let b = grain_came (lowest_past s h) GrainPast _ (λ g. refl) a.1 in
      let d = grain_came (lowest_bad_marker s h) Marker _ (λ g. refl) b.1 in
      let i = rule_came (copies_differ s h) _ _ refl d.1 in
      record {
        judged = j;
        filed = record { placed = record { sound = taken_sound s taken h j; kept = a.0 }; none = b.0 };
        left = rw (j, a.0, b.0, d.0, i.0);
      }

  from_came : (a : Result Header Refusal) → judge_of taken s ≡ a → came_to_marking (check_from s a) ≡ true
      → Unmarked taken s (header_of s)
  unfolding check_from
  from_came (Err r) j e = absurd (false≢true (sym (header_early taken s r j) ∙ e))
  from_came (Ok h) j e =
      let is : h ≡ header_of s = taken_header s taken h j in rw is at (layout_came h j e)

  pub unmarked_of_lem : came_to_marking (check_of taken s) ≡ true → Unmarked taken s (header_of s)
  unmarked_of_lem e = from_came (judge_of taken s) refl e
