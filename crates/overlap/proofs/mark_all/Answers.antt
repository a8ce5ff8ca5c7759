-- `mark_all`: two calls, left where one met; their groups are the list of areas.
use Rattle.overlap.proofs.Grouped.{areas_grouped}
use Rattle.window.proofs.RunLaws.{calls}
use Rattle.overlap.proofs.mark_all.Goals as goal

pub returns-then-mark_frame : goal.returns-then-mark_frame
returns-then-mark_frame c = rw areas_grouped (search calls)

pub returns : goal.returns
returns c = rw areas_grouped (search calls)
