-- Masks of a run: as `below` and `mask` make them.
use Prim.Native.Nat.{ℕ, ◌+◌, ◌*◌, ◌-◌, ◌/◌, ◌%◌, ◌^◌, ◌≤◌, ◌<◌}
use mathlib.Core.Path.{◌≡◌, ap, subst, ◌∙◌}
use native.Mathlib.Omega.{arith}
use native.Mathlib.Nat.{one-mul}
use lib.Pow.{pow_pos, shl_exact, ones_split, ones_lt, high}
use lib.Dec.{lit<}
use lib.Bits.{bit_xor}
use Rattle.marks.specs.Marks.{Mask}
use Rattle.marks.proofs.Bits.{ones_set, ones_clear, bit_xor_lem, bit_zero}

-- 1 shifted within the word
one_shifted : (n : ℕ) → n < 64 → (1 * 2 ^ n) % 2 ^ 64 ≡ 2 ^ n
one_shifted n h = shl_exact {a = 1} 1 n 64 (lit< tt) (omega arith) ∙ one-mul (2 ^ n)

pub one_stays : (n : ℕ) → n < 64 → 1 ≤ (1 * 2 ^ n) % 2 ^ 64
one_stays n h = rw (one_shifted n h) (pow_pos n)

-- ---- the sectors below `end`: none of the word's, some of them, all
module _ (base end : ℕ) where
  pub mask_none : end ≤ base → Mask base 0 end 0
  mask_none e = record { inside = λ k h l u. omega arith; under = λ k h l. bit_zero k; over = λ k h l. bit_zero k }

  pub mask_some : base < end → end - base < 64 → Mask base 0 end ((1 * 2 ^ (end - base)) % 2 ^ 64 - 1)
  mask_some g e =
      rw (one_shifted (end - base) e)
      record {
        inside = λ k h l u. ones_set (end - base) k (omega arith);
        under = λ k h l. omega arith;
        over = λ k h l. ones_clear (end - base) k (omega arith);
      }

  pub mask_all : 64 ≤ end - base → Mask base 0 end (2 ^ 64 - 1)
  mask_all e = record { inside = λ k h l u. ones_set 64 k h; under = λ k h l. omega arith; over = λ k h l. omega arith }

-- ---- the sectors below `end` but those below `from`
pub mask_between : (base from end x y : ℕ) → from ≤ end → Mask base 0 end y → Mask base 0 from x
    → Mask base from end (bit_xor y x)
mask_between base from end x y o e f =
    record {
      inside = λ k h l u. omega (arith, bit_xor_lem y x k, e.inside k h (omega arith) u, f.over k h l);
      under = λ k h l. omega (arith, bit_xor_lem y x k, e.inside k h (omega arith) (omega arith), f.inside k h (omega arith) l);
      over = λ k h l. omega (arith, bit_xor_lem y x k, e.over k h l, f.over k h (omega arith));
    }

-- ---- the sectors of a word from one on, and up to one
mask_under : (base b : ℕ) → b < 64 → Mask base 0 (base + b) ((1 * 2 ^ b) % 2 ^ 64 - 1)
mask_under base b small =
    rw (one_shifted b small)
    record {
      inside = λ k h l u. ones_set b k (omega arith);
      under = λ k h l. omega arith;
      over = λ k h l. ones_clear b k (omega arith);
    }

pub mask_low : (from : ℕ)
    → Mask (from / 64 * 64) from ((from / 64 + 1) * 64) (bit_xor (2 ^ 64 - 1) ((1 * 2 ^ (from % 64)) % 2 ^ 64 - 1))
mask_low from =
    let base = from / 64 * 64 in
    let at : base + from % 64 ≡ from = omega arith in
    let below : Mask base 0 from ((1 * 2 ^ (from % 64)) % 2 ^ 64 - 1) = rw at at (mask_under base (from % 64) (omega arith)) in
    mask_between base from ((from / 64 + 1) * 64) ((1 * 2 ^ (from % 64)) % 2 ^ 64 - 1) (2 ^ 64 - 1) (omega arith)
    (mask_all base ((from / 64 + 1) * 64) (omega arith)) below

ones_shifted : (b k n : ℕ) → b + 1 + k ≡ n → (2 ^ n - 1) / 2 ^ k ≡ 2 ^ (b + 1) - 1
ones_shifted b k n e =
    subst (λ (m : ℕ). (2 ^ m - 1) / 2 ^ k ≡ 2 ^ (b + 1) - 1) e
    (ap (λ (x : ℕ). x / 2 ^ k) (ones_split (b + 1) k) ∙ high (2 ^ (b + 1) - 1) k (ones_lt k))

pub mask_high : (end : ℕ) → 1 ≤ end
    → Mask ((end - 1) / 64 * 64) ((end - 1) / 64 * 64) end ((2 ^ 64 - 1) / 2 ^ (63 - (end - 1) % 64))
mask_high end h =
    let b = (end - 1) % 64 in
    rw (ones_shifted b (63 - b) 64 (omega arith))
    record {
      inside = λ k s l u. ones_set (b + 1) k (omega arith);
      under = λ k s l. absurd (omega arith);
      over = λ k s l. ones_clear (b + 1) k (omega arith);
    }
