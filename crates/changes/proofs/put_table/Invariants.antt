-- `put_table`: the changes of the first k entries are put.
use Prim.Native.Nat.{◌≤◌, ◌-◌}
use mathlib.Core.Path.{◌≡◌}
use lib.ListN.{length}
use Rattle.base.specs.Rows.{rows}
use Rattle.framing.specs.WordsPut.{WordsPut}
use Rattle.changes.specs.TableChanges.{change_in}
use Rattle.changes.proofs.put_table.Given as goal

abbrev pub invariant-loop-k : goal.invariant-loop-k
invariant-loop-k l =
    (l.k ≤ l.n) × (length l.list ≡ length l.initial.list) × WordsPut (rows l.k (change_in l.image l.first l.t l.u))
    l.initial.list l.at l.list l.next

abbrev pub decreases-loop-k : goal.decreases-loop-k
decreases-loop-k l = l.n - l.k
