-- `mark_around`: two calls, left where one met.
use Rattle.overlap.specs.InFile.{around}
use Rattle.window.specs.TakenRuns.{run_stop}
use Rattle.overlap.proofs.Grouped.{stretch_run}
use Rattle.overlap.proofs.mark_around.Goals as goal

pub returns-then-mark_frame : goal.returns-then-mark_frame
unfolding around
returns-then-mark_frame c = search run_stop

pub returns : goal.returns
unfolding around
returns c = search stretch_run
