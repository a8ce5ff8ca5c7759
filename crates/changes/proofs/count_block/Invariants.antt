-- `count_block`: the entries below k are counted.
use Prim.Native.Nat.{◌+◌, ◌≤◌, ◌-◌}
use mathlib.Core.Path.{◌≡◌}
use Rattle.changes.specs.TableChanges.{differing}
use Rattle.changes.proofs.count_block.Given as goal

abbrev pub invariant-loop-k : goal.invariant-loop-k
invariant-loop-k l =
    (l.count ≤ l.k - l.from) × (differing l.image l.t l.u l.from + l.count ≡ differing l.image l.t l.u l.k)
