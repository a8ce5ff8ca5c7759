-- Capacity and grain size: the tests of 6 are kept exactly where the declared rules hold.
use Prim.Native.Nat.{ℕ, ◌≤◌, ◌^◌}
use mathlib.Core.Path.{◌≡◌}
use mathlib.Core.Bool.{true, false, not}
use mathlib.Core.Logic.{⊎_elim}
use native.Mathlib.Omega.{arith}
use lib.Dec.{ltb, eqb}
use lib.Pow.{pow_mono}
use borrow.Author.Tests.{ltb-false, le-ltb, eqb-false, ne_eqb, not-false}
use Rattle.base.specs.Rounding.{power_up_to}
use Rattle.base.proofs.Steps.{or_no, lt_or_ge}
use Rattle.base.proofs.Rounding.{power_is, is_power, power_most}
use Rattle.format.specs.Kdmv.{capacity_broken, grain_size_broken}
use Rattle.format.specs.Accepted.{Capacity, GrainSize}

-- capacity 1 to 2^31
pub capacity_kept : (c : ℕ) → capacity_broken c ≡ false → Capacity c
capacity_kept c e =
    let n = or_no (eqb c 0) (ltb 0x80000000 c) e in
    record { low = omega (arith, eqb-false c 0 n.0); high = ltb-false 0x80000000 c n.1 }

pub kept_capacity : (c : ℕ) → Capacity c → capacity_broken c ≡ false
kept_capacity c r = rw (ne_eqb c 0 (omega (arith, r.low)), le-ltb 0x80000000 c r.high)

-- a power of two up to 2^11 is one of the twelve
few : (k : ℕ) → 2 ^ k ≤ 2048 → k ≤ 11
few k h =
    ⊎_elim (λ l. let m : 2 ^ 12 ≤ 2 ^ k = pow_mono l in absurd (omega arith)) (λ g. g) (lt_or_ge 11 k)

-- a power of two, `least` to 2,048
pub grain_size_kept : (least n : ℕ) → grain_size_broken least n ≡ false → GrainSize least n
grain_size_kept least n e =
    let b = or_no (ltb n least) (not (power_up_to 11 n)) e in
    let p : power_up_to 11 n ≡ true = not-false _ b.1 in
    let r = power_is 11 n p in
    record { low = ltb-false n least b.0; high = power_most 11 n p; power = (r.0, r.2) }

pub kept_grain_size : (least n : ℕ) → GrainSize least n → grain_size_broken least n ≡ false
kept_grain_size least n r =
    let k : 2 ^ r.power.0 ≤ 2048 = rw r.power.1 at r.high in
    rw (le-ltb n least r.low, is_power 11 n r.power.0 (few _ k) r.power.1)
