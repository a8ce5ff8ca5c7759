-- `put_tables`: the invariant says that what the first d entries name is put.
use mathlib.Core.Path.{◌≡◌}
use lib.ListN.{length}
use Rattle.base.specs.Rows.{rows}
use Rattle.format.specs.Entries.{meaning_at}
use Rattle.format.specs.Areas.{named}
use Rattle.format.specs.Frame.{told}
use Rattle.framing.specs.WordsPut.{WordsPut}
use Rattle.framing.proofs.put_tables.Given as goal

abbrev pub invariant-loop-d : goal.invariant-loop-d
invariant-loop-d l =
    (length l.list ≡ length l.initial.list)
    × WordsPut (told l.group (rows l.d (λ k. named (λ e. l.sectors) (meaning_at l.image l.one_is_zero l.directory k))))
    l.initial.list l.at l.list l.next
