-- Laws of single bits.
use Prim.Native.Nat.{ℕ, zero, suc, ◌+◌, ◌-◌, ◌/◌, ◌%◌, ◌^◌, ◌≤◌, ◌<◌, min, max}
use mathlib.Core.Path.{◌≡◌, sym, ap, subst, ◌∙◌}
use mathlib.Core.Logic.{⊎_elim}
use native.Mathlib.Omega.{arith}
use native.Mathlib.Nat.{div-eq_of_lt, pow-suc, lt_of_lt_of_le, lt_of_le_of_lt, zero-div, eq-zero-or-pos}
use lib.Pow.{pow_pos, pow_mono, ones_split, ones_lt, high, shr-shr}
use lib.Bits.{bit_and, bit_or, bit_xor, and_shr, or_shr, xor_shr, and_step, or_step, and_le_l, xor_add_and}
use Rattle.marks.specs.Marks.{bit}

-- ---- 2 ^ n - 1 has bits 0 to n - 1 set, and no others
bit_ones : (e k : ℕ) → bit (2 ^ (suc e + k) - 1) k ≡ 1
bit_ones e k =
    ap (λ (x : ℕ). x / 2 ^ k % 2) (ones_split (suc e) k)
    ∙ ap (λ (x : ℕ). x % 2) (high (2 ^ suc e - 1) k (ones_lt k))
    ∙ omega (arith, pow-suc 2 e, pow_pos e)

pub ones_set : (n k : ℕ) → k < n → bit (2 ^ n - 1) k ≡ 1
ones_set n k h =
    let e : suc (n - (k + 1)) + k ≡ n = omega arith in
    subst (λ (m : ℕ). bit (2 ^ m - 1) k ≡ 1) e (bit_ones (n - (k + 1)) k)

pub ones_clear : (n k : ℕ) → n ≤ k → bit (2 ^ n - 1) k ≡ 0
ones_clear n k h = ap (λ (x : ℕ). x % 2) (div-eq_of_lt (lt_of_lt_of_le (ones_lt n) (pow_mono h)))

-- ---- 0 has no bit set, and any other number has
pub bit_zero : (k : ℕ) → bit 0 k ≡ 0
bit_zero k = ap (λ (x : ℕ). x % 2) (zero-div (2 ^ k))

pub some_bit : (b n : ℕ) → n < 2 ^ b → (n ≡ 0 → ⊥) → (k : ℕ) × (k < b) × (bit n k ≡ 1)
some_bit zero n h z = absurd (z (omega arith))
some_bit (suc b) n h z =
    ⊎_elim
    (λ e. let r = some_bit b (n / 2) (omega (arith, pow-suc 2 b)) (λ y. z (omega arith)) in
    (1 + r.0, omega (arith, r.1), ap (λ (x : ℕ). x % 2) (sym (shr-shr n 1 r.0)) ∙ r.2))
    (λ p. (0, omega arith, omega arith))
    (eq-zero-or-pos (n % 2))

-- ---- two words
module _ (a b : ℕ) where
  bit_and_lem : (k : ℕ) → bit (bit_and a b) k ≡ min (bit a k) (bit b k)
  bit_and_lem k = omega (arith, and_shr a b k, and_step (a / 2 ^ k) (b / 2 ^ k))

  pub bit_or_lem : (k : ℕ) → bit (bit_or a b) k ≡ max (bit a k) (bit b k)
  bit_or_lem k = omega (arith, or_shr a b k, or_step (a / 2 ^ k) (b / 2 ^ k))

  pub bit_xor_lem : (k : ℕ) → bit (bit_xor a b) k ≡ (bit a k + bit b k) % 2
  bit_xor_lem k = omega (arith, xor_shr a b k, xor_add_and (a / 2 ^ k) (b / 2 ^ k))

  -- they share no bit, or one
  pub no_common : bit_and a b ≡ 0 → (k : ℕ) → bit b k ≡ 1 → bit a k ≡ 0
  no_common z k o = omega (arith, bit_and_lem k, ap (λ (x : ℕ). bit x k) z, bit_zero k)

  pub some_common : a < 2 ^ 64 → (bit_and a b ≡ 0 → ⊥) → (k : ℕ) × (k < 64) × (bit a k ≡ 1) × (bit b k ≡ 1)
  some_common h z =
      let r = some_bit 64 (bit_and a b) (lt_of_le_of_lt (and_le_l a b) h) z in
      (r.0, r.1, omega (arith, bit_and_lem r.0, r.2), omega (arith, bit_and_lem r.0, r.2))
