-- Laws of numbers in bytes, at any width: they are put together and cut, and reading and writing undo each other.
use Prim.Native.Nat.{ℕ, zero, suc, ◌+◌, ◌*◌, ◌/◌, ◌%◌, ◌^◌, ◌≤◌, ◌<◌}
use mathlib.Core.Path.{◌≡◌, refl, sym, ap, ◌∙◌}
use mathlib.Core.List.{List, ◌++◌}
use native.Mathlib.Omega.{arith}
use native.Mathlib.Nat.{add-zero, zero-add, suc-add, add_assoc, one-mul, mul-add, mul-zero, mul_comm}
use native.Mathlib.Nat.{mul_assoc, pow-zero, pow-suc, pow-succ'}
use native.Mathlib.Nat.{div-one, div-div-eq-div-mul, mod-one, mod-eq_of_lt, one-le-pow}
use native.Mathlib.Numerals.{one-add, add-one}
use lib.Arith.{mod-mul}
use lib.Pow.{pow_mono}
use Rattle.std.proofs.Math.Nat.{mul-le-mul_right}
use Rattle.std.proofs.lemmas.Nat.{pow-add}
use lib.Dec.{lit<}
use lib.ListN.{length, get_or, take, drop}
use lib.Seq.{drop-cons}
use Rattle.base.specs.Numbers.{le_at, le_bytes}
use Rattle.base.proofs.Stands.{Stands, stands_whole, head_of, tail_of}

-- the number of m + n bytes is that of the first m, and above it that of the n after them
pub le_split : (s : List ℕ) (at m n : ℕ) → le_at s at (m + n) ≡ le_at s at m + 256 ^ m * le_at s (at + m) n
unfolding le_at
le_split s at zero n = simp (zero-add, pow-zero, one-mul, add-zero)
le_split s at (suc m) n = simp (suc-add, le_split s (at + 1) m n, pow-succ', mul-add, mul_assoc, add_assoc, one-add)

pub le_length : (n v : ℕ) → length (le_bytes n v) ≡ n
unfolding le_bytes
le_length zero v = refl
le_length (suc n) v = ap suc (le_length n (v / 256))

-- where a number ends
pub le_ends : (here n v there : ℕ) → here + n ≡ there → here + length (le_bytes n v) ≡ there
le_ends here n v there e = rw (le_length n v) e

-- the first m bytes of a number, and those of what is left
pub le_cut : (m n v : ℕ) → le_bytes m v ++ le_bytes n (v / 256 ^ m) ≡ le_bytes (m + n) v
unfolding le_bytes
le_cut zero n v = simp (pow-zero, div-one, zero-add)
le_cut (suc m) n v = simp (suc-add, pow-succ', ← div-div-eq-div-mul v 256 (256 ^ m), le_cut m n (v / 256))

-- m bytes are 8 * m bits
bytes_wide : (m : ℕ) → 2 ^ (8 * m) ≡ 256 ^ m
bytes_wide zero = refl
bytes_wide (suc m) =
    let e : 8 * suc m ≡ 8 + 8 * m = omega arith in rw (e, pow-add 2 8 (8 * m), bytes_wide m, pow-succ' 256 m)

-- the first m + 1 bytes
pub le_more : (s : List ℕ) (at m : ℕ) → le_at s at (m + 1) ≡ le_at s at m + get_or s (at + m) 0 * 256 ^ m
unfolding le_at
le_more s at m = rw (le_split s at m 1) (simp (add-zero, mul-zero, mul_comm))

-- ---- what was written is read: of v as much as n bytes hold
pub read_low : {s : List ℕ} {at : ℕ} (n v : ℕ) → Stands s at (le_bytes n v) → le_at s at n ≡ v % 256 ^ n
unfolding le_at le_bytes
read_low zero v h = sym (rw pow-zero (mod-one v))
read_low {s} {at} (suc n) v h =
    rw (
      head_of h,
      read_low {at = at + 1} n (v / 256) (tail_of h),
      pow-suc,
      mod-mul v (one-le-pow n 256 (lit< tt))
          (lit< tt),
    ) (omega arith)

pub read_number : {s : List ℕ} {at : ℕ} (n v : ℕ) → Stands s at (le_bytes n v) → v < 256 ^ n → le_at s at n ≡ v
read_number n v h b = read_low n v h ∙ mod-eq_of_lt b

module _ (n v : ℕ) where
  pub back_low : le_at (le_bytes n v) 0 n ≡ v % 256 ^ n
  back_low = read_low n v (stands_whole (le_bytes n v))

  pub back_number : v < 256 ^ n → le_at (le_bytes n v) 0 n ≡ v
  back_number b = back_low ∙ mod-eq_of_lt b

-- ---- what is read was written, where the list is one of bytes
module _ (s : List ℕ) (bytes : (i : ℕ) → get_or s i 0 < 256) where
  pub le_below : (at n : ℕ) → le_at s at n < 256 ^ n
  unfolding le_at
  le_below at zero = rw pow-zero (lit< tt)
  le_below at (suc n) = rw pow-succ' (omega (arith, bytes at, le_below (at + 1) n))

  le_fits : (at m : ℕ) → m ≤ 8 → le_at s at m < 2 ^ 64
  le_fits at m h =
      let wide : 8 * m ≤ 64 = omega arith in
      let most : 256 ^ m ≤ 2 ^ 64 = rw (bytes_wide m) at (pow_mono wide) in
      omega (arith, most, le_below at m)

  -- the next byte b, shifted to its place, is added to the number of those before it
  module _ (at m n b : ℕ) (e : n ≡ le_at s at m) (q : b ≡ get_or s (at + m) 0) (h : m < 8) where
    pub byte_added : n + (b * 2 ^ (8 * m)) % 2 ^ 64 ≡ le_at s at (m + 1)
    byte_added =
        let part = le_more s at m in
        let room : get_or s (at + m) 0 * 256 ^ m < 2 ^ 64 = omega (arith, part, le_fits at (m + 1) (omega arith)) in
        rw (e, q, bytes_wide m, mod-eq_of_lt room) (sym part)

    pub byte_fits : n + (b * 2 ^ (8 * m)) % 2 ^ 64 < 2 ^ 64
    byte_fits = rw byte_added (le_fits at (m + 1) (omega arith))

  -- and so it is whichever byte b is
  pub byte_above : (at m n b : ℕ) → n ≡ le_at s at m → b < 256 → m < 8 → n + (b * 2 ^ (8 * m)) % 2 ^ 64 < 2 ^ 64
  byte_above at m n b e q h =
      let wide : 8 * suc m ≤ 64 = omega arith in
      let most : 256 * 256 ^ m ≤ 2 ^ 64 = rw (bytes_wide (suc m), pow-succ') at (pow_mono wide) in
      let part : b * 256 ^ m ≤ 255 * 256 ^ m = mul-le-mul_right (256 ^ m) (omega arith) in
      let low : n < 256 ^ m = rw e (le_below at m) in
      let room : b * 256 ^ m < 2 ^ 64 = omega (arith, most, part, low) in
      rw (bytes_wide m, mod-eq_of_lt room) (omega (arith, most, part, low))

  pub bytes_back : (at n : ℕ) → at + n ≤ length s → le_bytes n (le_at s at n) ≡ take n (drop at s)
  unfolding le_at le_bytes
  bytes_back at zero h = refl
  bytes_back at (suc n) h =
      let l : get_or s at 0 < 256 = bytes at in
      let m : (get_or s at 0 + 256 * le_at s (at + 1) n) % 256 ≡ get_or s at 0 = omega arith in
      let d : (get_or s at 0 + 256 * le_at s (at + 1) n) / 256 ≡ le_at s (at + 1) n = omega arith in
      rw (m, d, bytes_back (at + 1) n (omega arith), drop-cons s at 0 (omega arith), add-one)
