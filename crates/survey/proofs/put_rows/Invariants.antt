use mathlib.Core.Path.{◌≡◌}
use Rattle.base.specs.Bytes.{over}
use Rattle.format.specs.Survey.{rows_below, totals_below}
use Rattle.lengths.specs.Laid.{Ends}
use Rattle.survey.specs.Small.{SmallTotals}
use Rattle.survey.proofs.put_rows.Given as goal

abbrev pub invariant-loop-k : goal.invariant-loop-k
invariant-loop-k l =
    Ends l.images l.lengths l.k l.start
    × SmallTotals l.k l.totals
    × (l.totals ≡ totals_below l.images l.lengths l.k)
    × (l.rows ≡ over l.initial.rows 0 (rows_below l.images l.lengths l.k))
