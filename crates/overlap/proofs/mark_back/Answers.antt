-- `mark_back`: two calls, left where one met.
use Rattle.overlap.proofs.Grouped.{back_stop, back_all}
use Rattle.overlap.proofs.mark_back.Goals as goal

pub returns-then-mark_if : goal.returns-then-mark_if
returns-then-mark_if c = search back_stop

pub returns : goal.returns
returns c = search back_all
