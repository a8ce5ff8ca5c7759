-- The lowest grain of a kind: there is none exactly where no grain is of that kind.
use Prim.Native.Nat.{ℕ, zero, suc, ◌+◌, ◌<◌}
use mathlib.Core.Path.{◌≡◌, refl}
use mathlib.Core.Bool.{Bool, false}
use native.Mathlib.Omega.{arith}
use native.Mathlib.Nat.{add-zero, zero-add}
use Rattle.base.specs.Pick.{pick}
use Rattle.format.specs.Check.{lowest_from}
use Rattle.format.proofs.Picked.{passed}
use Rattle.std.specs.Prelude.{Option, Some, None}

pick_none : (b : Bool) (g : ℕ) (y : Option ℕ) → pick b (Some g) y ≡ None → (b ≡ false) × (y ≡ None)
pick_none b g y e = passed b (Some g) y None (λ q. let z : ◌≡◌ {A = ℕ} 0 1 = cc in omega arith) e

module _ (p : ℕ → Bool) where
  none_from : (i n : ℕ) → lowest_from p i n ≡ None → (k : ℕ) → k < n → p (i + k) ≡ false
  unfolding lowest_from
  none_from i zero e k h = absurd (omega arith)
  none_from i (suc n) e zero h = rw add-zero (pick_none (p i) i (lowest_from p (i + 1) n) e).0
  none_from i (suc n) e (suc k) h =
      let at : i + suc k ≡ i + 1 + k = omega arith in
      rw at (none_from (i + 1) n (pick_none (p i) i (lowest_from p (i + 1) n) e).1 k (omega arith))

  from_none : (i n : ℕ) → ((k : ℕ) → k < n → p (i + k) ≡ false) → lowest_from p i n ≡ None
  unfolding lowest_from pick
  from_none i zero h = refl
  from_none i (suc n) h =
      let e : p i ≡ false = rw add-zero at (h 0 (omega arith)) in
      rw (e, from_none (i + 1) n (λ k l. let at : i + 1 + k ≡ i + suc k = omega arith in rw at (h (suc k) (omega arith))))

  pub none_lowest : (n : ℕ) → lowest_from p 0 n ≡ None → (k : ℕ) → k < n → p k ≡ false
  none_lowest n e k h = rw zero-add at (none_from 0 n e k h)

  pub lowest_none : (n : ℕ) → ((k : ℕ) → k < n → p k ≡ false) → lowest_from p 0 n ≡ None
  lowest_none n h = from_none 0 n (λ k l. rw zero-add (h k l))

-- only grains below n count
pub lowest_same : (p q : ℕ → Bool) (i n : ℕ) → ((k : ℕ) → k < i + n → p k ≡ q k) → lowest_from p i n ≡ lowest_from q i n
unfolding lowest_from
lowest_same p q i zero h = refl
lowest_same p q i (suc n) h = rw (h i (omega arith), lowest_same p q (i + 1) n (λ k l. h k (omega arith)))
