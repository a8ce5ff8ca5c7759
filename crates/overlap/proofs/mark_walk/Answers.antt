-- `mark_walk`: one call for each way.
use Rattle.overlap.specs.InFile.{walked}
use Rattle.overlap.proofs.Grouped.{walk_as}
use Rattle.overlap.proofs.mark_walk.Goals as goal

pub returns-in-All : goal.returns-in-All
unfolding walked
returns-in-All c = search walk_as

pub returns-in-Frame : goal.returns-in-Frame
unfolding walked
returns-in-Frame c = search walk_as
