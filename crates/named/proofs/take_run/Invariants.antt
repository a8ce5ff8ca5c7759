-- `take_run`: the invariant says that the first i entries of the run are taken.
use Prim.Native.Nat.{◌+◌}
use mathlib.Core.Bool.{false}
use Rattle.base.specs.Rows.{rows}
use Rattle.named.specs.Named.{entry_area}
use Rattle.named.proofs.take_run.Given as goal

abbrev pub invariant-loop-i : goal.invariant-loop-i
invariant-loop-i g l =
    g.T.Taker.ready l.taker
    × g.T.Taker.takes l.initial.taker (rows l.i (λ j. entry_area l.image l.least l.packed l.size l.t (l.from + j))) l.taker
    false
