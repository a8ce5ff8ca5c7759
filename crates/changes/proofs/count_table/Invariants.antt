-- `count_table`: the entries below k are counted.
use Prim.Native.Nat.{◌≤◌, ◌-◌}
use mathlib.Core.Path.{◌≡◌}
use Rattle.changes.specs.TableChanges.{differing}
use Rattle.changes.proofs.count_table.Given as goal

abbrev pub invariant-loop-k : goal.invariant-loop-k
invariant-loop-k l = (l.k ≤ l.n) × (l.count ≤ l.k) × (l.count ≡ differing l.image l.t l.u l.k)

abbrev pub decreases-loop-k : goal.decreases-loop-k
decreases-loop-k l = l.n - l.k
