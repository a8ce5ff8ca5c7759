use Rattle.format.specs.Stream.{if_whole}
use Rattle.base.proofs.Steps.{steps}
use Rattle.walk.proofs.other_block.Goals as goal

pub returns-then-ends_past : goal.returns-then-ends_past
unfolding if_whole
returns-then-ends_past c = rw (← c.file_sectors.ensures) (search steps)

pub returns : goal.returns
unfolding if_whole
returns c = rw (← c.file_sectors.ensures) (search steps)
