-- `tables_named`: the invariant says that what the first d entries name is counted.
use Prim.Native.Nat.{ℕ, ◌≤◌}
use mathlib.Core.Path.{◌≡◌}
use lib.ListN.{length}
use Rattle.format.specs.Areas.{table_areas}
use Rattle.frame.proofs.tables_named.Given as goal

abbrev pub invariant-loop-d : goal.invariant-loop-d
invariant-loop-d l =
    (l.count ≤ l.d) × ((sectors : ℕ) → l.count ≡ length (table_areas l.image l.one_is_zero sectors l.directory l.d))
