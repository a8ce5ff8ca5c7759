-- A check refuses with no number over 12 but 43.
use Prim.Native.Nat.{ℕ, ◌≤◌}
use mathlib.Core.Path.{◌≡◌, refl}
use native.Mathlib.Omega.{arith}
use mathlib.Core.List.{List}
use mathlib.Core.Logic.{◌⊎◌, inl, inr, ⊎_elim}
use lib.Dec.{lit≤}
use Rattle.base.proofs.Steps.{cond_all}
use Rattle.format.specs.Header.{judge}
use Rattle.format.specs.Check.{unless_grain, check_apart, check_copies, check_grains, check_layout, check_from, check}
use Rattle.format.specs.Answers.{number}
use Rattle.format.specs.declared.Taken.TheVariants.{KdmvAlone}
use Rattle.format.specs.declared.Header.{Header}
use Rattle.format.specs.declared.Refusal.{Refusal}
use Rattle.format.specs.declared.Refusal.TheVariants.{GrainPast, Marker}
use Rattle.format.proofs.HeaderRefusals.{taken_refuses}
use Rattle.std.specs.Prelude.{Result, Ok, Err, Option, Some, None}
use Rattle.format.specs.declared.Shape.{Shape}

abbrev Early : Refusal → Type 0
Early r = (number r ≤ 12) ⊎ (number r ≡ 43)

abbrev EarlyCheck : Result Shape Refusal → Type 0
EarlyCheck (Ok sizes) = Unit
EarlyCheck (Err r) = Early r

early_grain : (l : Option ℕ) (refusal : ℕ → Refusal) (a : Result Shape Refusal) → ((g : ℕ) → Early (refusal g)) → EarlyCheck a
    → EarlyCheck (unless_grain l refusal a)
unfolding unless_grain
early_grain None refusal a e k = k
early_grain (Some g) refusal a e k = e g

module _ (s : List ℕ) where
  early_layout : (h : Header) → EarlyCheck (check_layout s h)
  unfolding check_layout check_grains check_copies check_apart
  early_layout h =
      cond_all EarlyCheck _ _ _ (λ b. inl (lit≤ tt))
      (λ b.
      early_grain _ GrainPast _ (λ g. inl (lit≤ tt))
      (early_grain _ Marker _ (λ g. inl (lit≤ tt))
      (cond_all EarlyCheck _ _ _ (λ d. inl (lit≤ tt)) (λ d. cond_all EarlyCheck _ _ _ (λ e. inl (lit≤ tt)) (λ e. tt)))))

  early_from : (a : Result Header Refusal) → judge s ≡ a → EarlyCheck (check_from s a)
  unfolding check_from
  early_from (Err r) e = ⊎_elim (λ l. inl (omega arith)) (λ l. inr l) (taken_refuses s KdmvAlone r e)
  early_from (Ok h) e = early_layout h

  early_check : EarlyCheck (check s)
  early_check = early_from (judge s) refl

  pub check_refuses : (r : Refusal) → check s ≡ Err r → (number r ≤ 12) ⊎ (number r ≡ 43)
  check_refuses r e = rw e at early_check
