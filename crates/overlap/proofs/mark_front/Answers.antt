-- `mark_front`: two calls, left where one met.
use Rattle.overlap.specs.InFile.{front_areas}
use Rattle.window.proofs.RunLaws.{calls}
use Rattle.overlap.proofs.mark_front.Goals as goal

pub returns-then-mark_head : goal.returns-then-mark_head
unfolding front_areas
returns-then-mark_head c = search calls

pub returns : goal.returns
unfolding front_areas
returns c = search calls
