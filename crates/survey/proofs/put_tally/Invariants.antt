use Prim.Native.Nat.{◌+◌, ◌*◌, ◌/◌}
use mathlib.Core.Path.{◌≡◌}
use lib.ListN.{length, get_or}
use Rattle.base.specs.Bytes.{over}
use Rattle.base.specs.Rows.{tabulate}
use Rattle.format.specs.Survey.{count_of}
use Rattle.survey.proofs.put_tally.Given as goal

abbrev pub invariant-loop-i : goal.invariant-loop-i
invariant-loop-i l =
    l.tally
    ≡ over l.initial.tally 0
    (tabulate l.i (λ j. count_of (λ k. get_or l.rows (6 * k + 4) 0) (j + 1) (length l.rows / 6)))
