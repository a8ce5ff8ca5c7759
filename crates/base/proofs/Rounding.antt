-- Laws of rounding up and of powers of two.
use Prim.Native.Nat.{ℕ, zero, suc, ◌+◌, ◌*◌, ◌-◌, ◌^◌, ◌≤◌, ◌<◌}
use mathlib.Core.Path.{◌≡◌}
use mathlib.Core.Bool.{true, or-true}
use mathlib.Core.Logic.{⊎_elim}
use native.Mathlib.Omega.{arith}
use native.Mathlib.Nat.{le-div_iff_mul-le, div-lt_iff_lt-mul, div-mul-le_self, lt-div-mul-add, suc-mul, add-mul, one-mul}
use native.Mathlib.Nat.{mul-one, mul_assoc, mul-pos, mul-le-mul, le_refl}
use lib.Pow.{pow_pos, pow_mono}
use borrow.Author.Tests.{eqb-true, eq-eqb}
use Rattle.base.specs.Rounding.{ceil, power_up_to}
use Rattle.base.proofs.Steps.{or_yes, lt_or_ge}

-- ---- rounding up: a in parts of b
module _ (a b : ℕ) (some : 1 ≤ b) where
  -- the parts cover a, and the last of them is needed
  pub ceil_covers : a ≤ ceil a b * b
  ceil_covers = omega (arith, lt-div-mul-add {a = a + b - 1} some)

  pub ceil_under : ceil a b * b < a + b
  ceil_under = omega (arith, div-mul-le_self (a + b - 1) b)

  -- m parts that cover a are as many at least
  pub ceil_least : (m : ℕ) → a ≤ m * b → ceil a b ≤ m
  ceil_least m h = omega (arith, (div-lt_iff_lt-mul {k = b} {x = a + b - 1} {y = suc m} some).1 (rw suc-mul (omega arith)))

  pub ceil_most : ceil a b ≤ a
  ceil_most = ceil_least a (rw mul-one at (mul-le-mul (le_refl a) some))

  -- part x begins before a's end
  pub ceil_above : (x : ℕ) → x * b < a → x < ceil a b
  ceil_above x h = (le-div_iff_mul-le some).1 (rw suc-mul (omega arith))

  pub below_ceil : (x : ℕ) → x < ceil a b → x * b < a
  below_ceil x h = omega (arith, rw suc-mul at ((le-div_iff_mul-le some).0 h))

-- groups of p parts have room for all parts
pub ceil_groups : (a b p : ℕ) → 1 ≤ b → 1 ≤ p → ceil a b ≤ ceil a (p * b) * p
ceil_groups a b p hb hp = ceil_least a b hb _ (rw mul_assoc (ceil_covers a (p * b) (mul-pos hp hb)))

-- where the next group begins
pub next_base : (base d p : ℕ) → base ≡ d * p → base + p ≡ (d + 1) * p
next_base base d p e = rw e (simp (add-mul, one-mul))

-- ---- powers of two
pub power_is : (k n : ℕ) → power_up_to k n ≡ true → (j : ℕ) × (j ≤ k) × (n ≡ 2 ^ j)
unfolding power_up_to
power_is zero n e = (0, le_refl 0, eqb-true n 1 e)
power_is (suc k) n e =
    ⊎_elim (λ y. (suc k, le_refl (suc k), eqb-true n _ y)) (λ y. let r = power_is k n y in (r.0, omega (arith, r.1), r.2))
    (or_yes _ _ e)

pub is_power : (k n j : ℕ) → j ≤ k → n ≡ 2 ^ j → power_up_to k n ≡ true
unfolding power_up_to
is_power zero n j h e = let z : j ≡ 0 = omega arith in eq-eqb n 1 (rw z at e)
is_power (suc k) n j h e =
    ⊎_elim (λ l. rw (is_power k n j (omega arith) e, or-true))
    (λ g. let z : j ≡ suc k = omega arith in rw (eq-eqb n (2 ^ suc k) (rw z at e))) (lt_or_ge j (suc k))

module _ (k n : ℕ) (e : power_up_to k n ≡ true) where
  pub power_least : 1 ≤ n
  power_least = let r = power_is k n e in rw r.2 (pow_pos r.0)

  pub power_most : n ≤ 2 ^ k
  power_most = let r = power_is k n e in rw r.2 (pow_mono r.1)
