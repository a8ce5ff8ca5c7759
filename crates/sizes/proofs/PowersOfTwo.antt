-- A number with one binary digit that is set is a power of two.
use Prim.Native.Nat.{ℕ, zero, suc, ◌/◌, ◌%◌, ◌^◌, ◌≤◌, ◌<◌}
use mathlib.Core.Path.{◌≡◌, refl, sym, ◌∙◌}
use mathlib.Core.Bool.{false}
use mathlib.Core.Logic.{⊎_elim}
use native.Mathlib.Omega.{arith}
use native.Mathlib.Nat.{pow-suc}
use lib.Dec.{leb}
use lib.Pow.{pow_mono}
use lib.Count.{ones, ones_step}
use borrow.Author.Tests.{le-leb, lt-leb}
use Rattle.std.proofs.lemmas.Nat.{zero_from_ones, ones_le_self}
use Rattle.base.specs.Rounding.{power_up_to}
use Rattle.base.proofs.Steps.{lt_or_ge, true_or_false}
use Rattle.base.proofs.Rounding.{power_is, is_power, power_most}

one_digit : (b n : ℕ) → n < 2 ^ b → ones n ≡ 1 → (j : ℕ) × (n ≡ 2 ^ j)
one_digit zero n h e = absurd (omega (arith, ones_le_self n))
one_digit (suc b) n h e =
    ⊎_elim
    (λ even.
    let r = one_digit b (n / 2) (omega (arith, pow-suc 2 b)) (omega (arith, ones_step n)) in
    (suc r.0, omega (arith, r.1, pow-suc 2 r.0)))
    (λ odd. (0, omega (arith, zero_from_ones (n / 2) (omega (arith, ones_step n)))))
    (lt_or_ge (n % 2) 1)

power_digit : (j : ℕ) → ones (2 ^ j) ≡ 1
unfolding ones
power_digit zero = refl
power_digit (suc j) =
    let half : 2 ^ suc j / 2 ≡ 2 ^ j = omega (arith, pow-suc 2 j) in
    let s = rw half at (ones_step (2 ^ suc j)) in
    omega (arith, s, pow-suc 2 j, power_digit j)

module _ (n : ℕ) where
  pub power_few : n < 2 ^ 64 → ones n ≡ 1 → leb n 2048 ≡ power_up_to 11 n
  power_few h e =
      let r = one_digit 64 n h e in
      ⊎_elim
      (λ (few : r.0 < 12).
      let j : r.0 ≤ 11 = omega arith in
      let small : n ≤ 2 ^ 11 = rw r.1 (pow_mono j) in
      le-leb n 2048 small ∙ sym (is_power 11 n r.0 j r.1))
      (λ (many : 12 ≤ r.0).
      let large : 2 ^ 12 ≤ n = rw r.1 (pow_mono many) in
      lt-leb n 2048 (omega arith)
      ∙ ⊎_elim (λ t. absurd (omega (arith, power_most 11 n t))) (λ f. sym f) (true_or_false (power_up_to 11 n)))
      (lt_or_ge r.0 12)

  pub power_none : (ones n ≡ 1 → ⊥) → false ≡ power_up_to 11 n
  power_none h =
      ⊎_elim (λ t. let r = power_is 11 n t in absurd (h (rw r.2 (power_digit r.0)))) (λ f. sym f)
      (true_or_false (power_up_to 11 n))
