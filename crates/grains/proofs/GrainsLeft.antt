-- The lowest of n grains that a rule is true of, as a walk comes to it. `Left p n g`: no grain below g was one.
use Prim.Native.Nat.{ℕ, zero, suc, ◌+◌, ◌-◌, ◌≤◌, ◌<◌, min}
use mathlib.Core.Path.{◌≡◌, ◌∙◌}
use mathlib.Core.Bool.{Bool, true, false}
use mathlib.Core.Logic.{⊎_elim}
use native.Mathlib.Omega.{arith}
use native.Mathlib.Nat.{sub-eq-zero_of_le, sub-zero, add-zero, add-suc, add_assoc}
use native.Mathlib.Numerals.{add-one}
use Rattle.base.specs.Pick.{pick}
use Rattle.base.proofs.Steps.{lt_or_ge}
use Rattle.format.specs.Check.{lowest_from}
use Rattle.std.specs.Prelude.{Some, None}

-- what is left equals the whole
pub record Left (p : ℕ → Bool) (n g : ℕ) : Type 0 where
  pub whole : lowest_from p 0 n ≡ lowest_from p g (n - g)

module _ (p : ℕ → Bool) (n : ℕ) where
  pub left_start : Left p n 0
  left_start = record { whole = rw sub-zero }

  left_step : (g : ℕ) → g < n → lowest_from p g (n - g) ≡ pick (p g) (Some g) (lowest_from p (g + 1) (n - (g + 1)))
  unfolding lowest_from
  left_step g h = let e : n - g ≡ suc (n - (g + 1)) = omega arith in rw e

  -- at the end and past it nothing is left
  left_over : (a b : ℕ) → Left p n a → n ≤ a → n ≤ b → Left p n b
  unfolding lowest_from
  left_over a b l h k = record { whole = l.whole ∙ rw (sub-eq-zero_of_le h, sub-eq-zero_of_le k) }

  -- one grain that is none, whether or not it is below n
  left_one : (g : ℕ) → Left p n g → p g ≡ false → Left p n (g + 1)
  unfolding pick
  left_one g l e =
      ⊎_elim (λ h. record { whole = l.whole ∙ rw (left_step g h, e) }) (λ h. left_over g (g + 1) l h (omega arith))
      (lt_or_ge g n)

  -- ---- the walk's steps, each premise as the code gives it
  -- a run of grains that are none
  pub left_range : (a m : ℕ) → Left p n a → ((k : ℕ) → k < m → p (a + k) ≡ false) → Left p n (a + m)
  left_range a zero l h = rw add-zero l
  left_range a (suc m) l h =
      rw (add-suc, ← add-one) (left_one (a + m) (left_range a m l (λ k q. h k (omega arith))) (h m (omega arith)))

  -- grain k of a table
  pub left_more : (a k : ℕ) → Left p n (a + k) → p (a + k) ≡ false → Left p n (a + (k + 1))
  left_more a k l e = rw (← add_assoc) (left_one (a + k) l e)

  pub left_here : (g : ℕ) → Left p n g → g < n → p g ≡ true → Some g ≡ lowest_from p 0 n
  unfolding pick
  left_here g l h e = rw (l.whole, left_step g h, e)

  -- all entries in use of a table of m
  pub left_table : (a m k used : ℕ) → Left p n (a + k) → a < n → k ≤ used → used ≤ k → used ≡ min m (n - a) → Left p n (a + m)
  left_table a m k used l b i j e =
      ⊎_elim (λ h. let q : k ≡ m = omega arith in rw (← q) l)
      (λ h. left_over (a + k) (a + m) l (omega arith) (omega arith)) (lt_or_ge m (n - a))

  -- a loop over its entries came to its end
  pub left_end : (a k end : ℕ) → Left p n (a + k) → k ≤ end → end ≤ k → Left p n (a + end)
  left_end a k end l h j = let q : k ≡ end = omega arith in rw (← q) l

  -- all grains
  pub left_none : (all g : ℕ) → all ≡ n → Left p all g → all ≤ g → None ≡ lowest_from p 0 n
  unfolding lowest_from
  left_none all g ea l h = rw (← ea, l.whole, sub-eq-zero_of_le h)
