-- `put_changes`: the changes of the tables below d are put.
use mathlib.Core.Path.{◌≡◌}
use lib.ListN.{length}
use Rattle.base.specs.Rows.{rows}
use Rattle.framing.specs.WordsPut.{WordsPut}
use Rattle.changes.specs.TableChanges.{changes_at}
use Rattle.changes.proofs.put_changes.Given as goal

abbrev pub invariant-loop-d : goal.invariant-loop-d
invariant-loop-d l =
    (length l.list ≡ length l.initial.list) × WordsPut (rows l.d (changes_at l.image l.g)) l.initial.list 0
    l.list l.next
