-- What refusal 6 leaves known of sizes.
use Prim.Native.Nat.{ℕ, ◌*◌, ◌≤◌}
use mathlib.Core.Path.{◌≡◌}
use mathlib.Core.Bool.{true, false, not}
use native.Mathlib.Nat.{mul-pos, mul-le-mul}
use lib.Dec.{ltb, eqb}
use borrow.Author.Tests.{ltb-false}
use Rattle.base.specs.Rounding.{power_up_to}
use Rattle.base.proofs.Steps.{or_no, not_no}
use Rattle.base.proofs.Rounding.{power_least, power_most}
use Rattle.format.specs.Kdmv.{capacity_broken, grain_size_broken}
use Rattle.format.specs.Judged.{Sized}

-- what a table covers can be counted
pub covered : {per_table size : ℕ} → 1 ≤ per_table → per_table ≤ 4096 → 1 ≤ size → size ≤ 2048 → (1 ≤ per_table * size)
    × (per_table * size ≤ 8388608)
covered a b c d = (mul-pos a c, mul-le-mul b d)

pub sized : (least c size : ℕ) → capacity_broken c ≡ false → grain_size_broken least size ≡ false → Sized c size
sized least c size e f =
    let a = or_no (eqb c 0) (ltb 0x80000000 c) e in
    let b = or_no (ltb size least) (not (power_up_to 11 size)) f in
    let p : power_up_to 11 size ≡ true = not_no _ b.1 in
    record { low = power_least 11 size p; high = power_most 11 size p; small = ltb-false 0x80000000 c a.1 }
