-- A header is refused with no number over 7 but 43, and a start's with none over 6 but 43.
use Prim.Native.Nat.{ℕ, ◌≤◌}
use mathlib.Core.Path.{◌≡◌, refl}
use mathlib.Core.List.{List}
use mathlib.Core.Logic.{◌⊎◌, inl, inr, ⊎_elim}
use native.Mathlib.Omega.{arith}
use lib.Dec.{lit≤}
use Rattle.base.specs.Pick.{pick}
use Rattle.base.specs.Strings.{same_at}
use Rattle.base.proofs.Steps.{cond_all}
use Rattle.format.specs.Kdmv.{kdmv_fields, kdmv_fault}
use Rattle.format.specs.Cowd.{cowd_magic, cowd_fields, cowd_fault}
use Rattle.format.specs.Header.{unless_fault, with_footer, judge_kdmv, judge_cowd, judge_of, judge, judge_kdmv_start}
use Rattle.format.specs.Header.{judge_start}
use Rattle.format.specs.Answers.{number}
use Rattle.format.specs.declared.Taken.{Taken}
use Rattle.format.specs.declared.Taken.TheVariants.{KdmvAlone}
use Rattle.format.specs.declared.KdmvFields.{KdmvFields}
use Rattle.format.specs.declared.CowdFields.{CowdFields}
use Rattle.format.specs.declared.Refusal.{Refusal}
use Rattle.format.specs.declared.Refusal.TheVariants.{Magic}
use Rattle.std.specs.Prelude.{Result, Ok, Err}
use Rattle.format.specs.declared.Header.{Header}

abbrev EarlyFault : Result (Unit {0}) Refusal → Type 0
EarlyFault (Ok tt) = Unit
EarlyFault (Err r) = number r ≤ 6

-- no number over n but 43
abbrev pub Early : ℕ → Refusal → Type 0
Early n r = (number r ≤ n) ⊎ (number r ≡ 43)

abbrev EarlyHeader : ℕ → Result Header Refusal → Type 0
EarlyHeader n (Ok h) = Unit
EarlyHeader n (Err r) = Early n r

early_fault : (n : ℕ) → 6 ≤ n → (f : Result (Unit {0}) Refusal) (a : Result Header Refusal) → EarlyFault f → EarlyHeader n a
    → EarlyHeader n (unless_fault f a)
unfolding unless_fault
early_fault n b (Ok tt) a e k = k
early_fault n b (Err r) a e k = inl (omega arith)

early_kdmv : (k : KdmvFields) → EarlyFault (kdmv_fault k)
unfolding kdmv_fault
early_kdmv k =
    cond_all EarlyFault _ _ _ (λ b. lit≤ tt)
    (λ b.
    cond_all EarlyFault _ _ _ (λ d. lit≤ tt)
    (λ d. cond_all EarlyFault _ _ _ (λ e. lit≤ tt) (λ e. cond_all EarlyFault _ _ _ (λ g. lit≤ tt) (λ g. tt))))

early_cowd : (k : CowdFields) → EarlyFault (cowd_fault k)
unfolding cowd_fault
early_cowd k =
    cond_all EarlyFault _ _ _ (λ b. lit≤ tt)
    (λ b. cond_all EarlyFault _ _ _ (λ d. lit≤ tt) (λ d. cond_all EarlyFault _ _ _ (λ e. lit≤ tt) (λ e. tt)))

module _ (s : List ℕ) where
  early_other : (taken : Taken) (n : ℕ) → 6 ≤ n
      → EarlyHeader n (pick (same_at s 0 cowd_magic) (judge_cowd taken s) (Err Magic))
  unfolding judge_cowd
  early_other taken n b =
      cond_all (EarlyHeader n) _ _ _
      (λ m.
      cond_all (EarlyHeader n) _ _ _ (λ d. inl (omega arith))
      (λ d. cond_all (EarlyHeader n) _ _ _ (λ g. inr refl) (λ g. early_fault n b _ _ (early_cowd (cowd_fields s)) tt)))
      (λ m. inl (omega arith))

  early_judge : (taken : Taken) → EarlyHeader 7 (judge_of taken s)
  unfolding judge_of judge_kdmv with_footer
  early_judge taken =
      cond_all (EarlyHeader 7) _ _ _ (λ b. inl (lit≤ tt))
      (λ b.
      cond_all (EarlyHeader 7) _ _ _
      (λ m.
      cond_all (EarlyHeader 7) _ _ _ (λ d. inl (lit≤ tt))
      (λ d.
      early_fault 7 (lit≤ tt) _ _ (early_kdmv (kdmv_fields s))
      (cond_all (EarlyHeader 7) _ _ _ (λ e. cond_all (EarlyHeader 7) _ _ _ (λ g. inl (lit≤ tt)) (λ g. tt)) (λ e. tt))))
      (λ n. early_other taken 7 (lit≤ tt)))

  early_start : EarlyHeader 6 (judge_start s)
  unfolding judge_start judge_kdmv_start
  early_start =
      cond_all (EarlyHeader 6) _ _ _ (λ b. inl (lit≤ tt))
      (λ b.
      cond_all (EarlyHeader 6) _ _ _
      (λ m.
      cond_all (EarlyHeader 6) _ _ _ (λ d. inl (lit≤ tt)) (λ d. early_fault 6 (lit≤ tt) _ _ (early_kdmv (kdmv_fields s)) tt))
      (λ n. early_other KdmvAlone 6 (lit≤ tt)))

  pub taken_refuses : (taken : Taken) (r : Refusal) → judge_of taken s ≡ Err r → Early 7 r
  taken_refuses taken r e = rw e at (early_judge taken)

  -- so with none of the numbers between
  pub not_between : (r : Refusal) → Early 7 r → (n : ℕ) → 8 ≤ n → n ≤ 42 → number r ≡ n → ⊥
  not_between r e n low high q = ⊎_elim (λ l. omega arith) (λ l. omega arith) e

  pub judge_refuses : (r : Refusal) → judge s ≡ Err r → (n : ℕ) → 8 ≤ n → n ≤ 42 → number r ≡ n → ⊥
  judge_refuses r e = not_between r (taken_refuses KdmvAlone r e)

  pub start_refuses : (r : Refusal) → judge_start s ≡ Err r → Early 6 r
  start_refuses r e = rw e at early_start
