-- Laws of sums over the numbers below one.
use Prim.Native.Nat.{ℕ, zero, suc, ◌+◌, ◌≤◌, ◌<◌}
use mathlib.Core.Path.{◌≡◌, refl}
use native.Mathlib.Omega.{arith}
use native.Mathlib.Nat.{add-zero, add-suc}
use Rattle.base.specs.SumsBelow.{sum_below}

pub sum_same : (n : ℕ) (f g : ℕ → ℕ) → ((x : ℕ) → x < n → f x ≡ g x) → sum_below f n ≡ sum_below g n
unfolding sum_below
sum_same zero f g e = refl
sum_same (suc n) f g e = rw (sum_same n f g (λ x b. e x (omega arith)), e n (omega arith))

-- the numbers below m, and the n from m on
pub sum_split : (m n : ℕ) (f : ℕ → ℕ) → sum_below f (m + n) ≡ sum_below f m + sum_below (λ k. f (m + k)) n
unfolding sum_below
sum_split m zero f = simp add-zero
sum_split m (suc n) f = rw add-suc (omega (arith, sum_split m n f))

pub sum_add : (n : ℕ) (f g : ℕ → ℕ) → sum_below (λ x. f x + g x) n ≡ sum_below f n + sum_below g n
unfolding sum_below
sum_add zero f g = refl
sum_add (suc n) f g = omega (arith, sum_add n f g)

-- each is 0, each is 1, each is at most 1
pub sum_none : (n : ℕ) (f : ℕ → ℕ) → ((x : ℕ) → x < n → f x ≡ 0) → sum_below f n ≡ 0
unfolding sum_below
sum_none zero f e = refl
sum_none (suc n) f e = omega (arith, sum_none n f (λ x b. e x (omega arith)), e n (omega arith))

pub sum_ones : (n : ℕ) (f : ℕ → ℕ) → ((x : ℕ) → x < n → f x ≡ 1) → sum_below f n ≡ n
unfolding sum_below
sum_ones zero f e = refl
sum_ones (suc n) f e = omega (arith, sum_ones n f (λ x b. e x (omega arith)), e n (omega arith))

pub sum_most : (n : ℕ) (f : ℕ → ℕ) → ((x : ℕ) → x < n → f x ≤ 1) → sum_below f n ≤ n
unfolding sum_below
sum_most zero f e = omega arith
sum_most (suc n) f e = omega (arith, sum_most n f (λ x b. e x (omega arith)), e n (omega arith))
