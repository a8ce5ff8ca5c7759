-- Laws of numbers, as the loop over their digits goes through them; and that they have room in 64 bits.
use Prim.Native.Nat.{ℕ, ◌+◌, ◌*◌, ◌^◌, ◌<◌, ◌≤◌}
use mathlib.Core.Path.{◌≡◌, sym, ◌∙◌}
use mathlib.Core.List.{List}
use native.Mathlib.Omega.{arith}
use native.Mathlib.Nat.{pow-succ', mul-le-mul_right, pow-le-pow_right, lt_of_lt_of_le}
use native.Mathlib.Numerals.{add-one}
use lib.Dec.{ltb, lit<}
use lib.ListN.{get_or, length, drop, drop_of_length-le}
use lib.Seq.{drop-cons}
use mir.Syntax.{w64}
use mir.Val.{Fits}
use borrow.Author.Tests.{lt-ltb, le-ltb}
use Rattle.std.specs.Prelude.{None, Some, option_and_then}
use Rattle.base.specs.Pick.{pick}
use Rattle.descriptor.specs.Words.{digit_value, numeral_from}

-- ---- from the byte i on, n being what the digits before it make
module _ (base : ℕ) (w : List ℕ) (n i : ℕ) where
  abbrev pub Digits : Type 0
  Digits = numeral_from base 0 w ≡ numeral_from base n (drop i w)

  digits_step : i < length w → numeral_from base n (drop i w) ≡ option_and_then
      (λ d. pick (ltb d base) (numeral_from base (base * n + d) (drop (i + 1) w)) None)
      (digit_value (get_or w i 0))
  unfolding numeral_from
  digits_step h = simp (drop-cons w i 0 h, add-one)

  module _ (l : Digits) (h : i < length w) where
    pub digits_none : digit_value (get_or w i 0) ≡ None → None ≡ numeral_from base 0 w
    digits_none e = sym (l ∙ rw (digits_step h, e))

    module _ (d : ℕ) (e : digit_value (get_or w i 0) ≡ Some d) where
      pub digits_bad : base ≤ d → None ≡ numeral_from base 0 w
      unfolding pick
      digits_bad b = sym (l ∙ rw (digits_step h, e, le-ltb d base b))

      pub digits_more : d < base → numeral_from base 0 w ≡ numeral_from base (base * n + d) (drop (i + 1) w)
      unfolding pick
      digits_more b = l ∙ rw (digits_step h, e, lt-ltb d base b)

  pub digits_all : Digits → length w ≤ i → Some n ≡ numeral_from base 0 w
  unfolding numeral_from
  digits_all l h = rw (l, drop_of_length-le w h)

-- ---- room
-- a number of i digits grows by a digit
pub grown : (base n d i : ℕ) → base ≤ 16 → d < base → n < 16 ^ i → base * n + d < 16 ^ (i + 1)
grown base n d i b h l = rw (add-one, pow-succ') (omega (arith, mul-le-mul_right n b))

-- of up to 15 digits
module _ (base n d i long : ℕ) (b : (base ≤ 16) × (long ≤ 15)) (h : d < base) (l : n < 16 ^ i) (k : i < long) where
  below : base * n + d < 16 ^ 15
  below =
      let e : 16 ^ (i + 1) ≤ 16 ^ 15 = pow-le-pow_right {n = 16} (lit< tt) {i = i + 1} {j = 15} (omega (arith, b.1)) in
      lt_of_lt_of_le (grown base n d i b.0 h l) e

  pub sum_fits : Fits w64 (base * n + d)
  sum_fits = omega (arith, below)

  pub times_fits : Fits w64 (base * n)
  times_fits = omega (arith, below)
