-- `mark_head`: two calls, left where one met.
use Rattle.overlap.specs.InFile.{head_areas}
use Rattle.window.proofs.RunLaws.{calls}
use Rattle.overlap.proofs.mark_head.Goals as goal

pub returns-then-mark_area : goal.returns-then-mark_area
unfolding head_areas
returns-then-mark_area c = search calls

pub returns : goal.returns
unfolding head_areas
returns c = search calls
