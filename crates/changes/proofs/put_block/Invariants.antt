-- `put_block`: the changes of the first j entries are put.
use Prim.Native.Nat.{◌+◌}
use mathlib.Core.Path.{◌≡◌}
use lib.ListN.{length}
use Rattle.base.specs.Rows.{rows}
use Rattle.framing.specs.WordsPut.{WordsPut}
use Rattle.changes.specs.TableChanges.{change_in}
use Rattle.changes.proofs.put_block.Given as goal

abbrev pub invariant-loop-j : goal.invariant-loop-j
invariant-loop-j l =
    (length l.list ≡ length l.initial.list)
    × WordsPut (rows l.j (λ i. change_in l.image l.first l.t l.u (l.from + i))) l.initial.list l.at l.list l.next
