-- A rule judged number by number from 0 up, each premise as a loop gives it: of no number below k it is true.
use Prim.Native.Nat.{ℕ, zero, suc, ◌+◌, ◌≤◌, ◌<◌}
use mathlib.Core.Path.{◌≡◌, refl, sym, ◌∙◌}
use mathlib.Core.List.{List}
use mathlib.Core.Logic.{⊎_elim}
use mathlib.Core.Bool.{Bool, true, false, true≢false}
use native.Mathlib.Omega.{arith}
use native.Mathlib.Numerals.{add-one}
use Rattle.base.specs.Rows.{rows}
use Rattle.base.proofs.Steps.{true_or_false}
use Rattle.format.specs.Entries.{any_below}
use Rattle.format.specs.Areas.{Area, runs_past}
use Rattle.format.proofs.Areas.{past_append}
use Rattle.format.proofs.Entries.{some_no}
use Rattle.format.proofs.Inside.{none_in}

module _ (p : ℕ → Bool) where
  pub some_start : any_below p 0 ≡ false
  unfolding any_below
  some_start = refl

  module _ {r : Bool} (k : ℕ) (e : r ≡ p k) where
    pub some_here : (n : ℕ) → k < n → r ≡ true → true ≡ any_below p n
    some_here n h t =
        ⊎_elim sym (λ f. absurd (true≢false (sym (sym e ∙ t) ∙ some_no p n f k h))) (true_or_false (any_below p n))

    pub some_next : any_below p k ≡ false → r ≡ false → any_below p (k + 1) ≡ false
    unfolding any_below
    some_next b f = rw (add-one, b, ← e) f

  pub some_end : (n k : ℕ) → any_below p k ≡ false → k ≤ n → n ≤ k → false ≡ any_below p n
  some_end n k b h g = let q : n ≡ k = omega arith in rw q (sym b)

-- rows of areas, of which one runs past f
module _ (f : ℕ) (q : ℕ → List Area) where
  past_some : (n : ℕ) → runs_past f (rows n q) ≡ any_below (λ k. runs_past f (q k)) n
  unfolding rows any_below
  past_some zero = none_in f
  past_some (suc n) = past_append f (rows n q) (q n) ∙ rw (past_some n)

  pub rows_past : {r : Bool} (n : ℕ) → r ≡ any_below (λ k. runs_past f (q k)) n → r ≡ runs_past f (rows n q)
  rows_past n e = e ∙ sym (past_some n)
