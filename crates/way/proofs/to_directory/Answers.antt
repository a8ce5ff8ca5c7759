use Rattle.format.specs.Way.{to_directory}
use Rattle.way.proofs.to_directory.Goals as goal

pub returns : goal.returns
unfolding to_directory
returns c = rw c.entry_at.ensures.0
