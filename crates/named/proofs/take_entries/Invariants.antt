-- `take_entries`: the invariant says that the first k entries are taken.
use Prim.Native.Nat.{◌≤◌, ◌-◌}
use mathlib.Core.Bool.{false}
use Rattle.base.specs.Rows.{rows}
use Rattle.named.specs.Named.{entry_area}
use Rattle.named.proofs.take_entries.Given as goal

abbrev pub invariant-loop-k : goal.invariant-loop-k
invariant-loop-k g l =
    (l.k ≤ l.n) × g.T.Taker.ready l.taker
    × g.T.Taker.takes l.initial.taker (rows l.k (entry_area l.image l.least l.packed l.size l.t)) l.taker false

abbrev pub decreases-loop-k : goal.decreases-loop-k
decreases-loop-k g l = l.n - l.k
