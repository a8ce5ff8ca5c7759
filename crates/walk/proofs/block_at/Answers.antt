use Rattle.format.specs.Stream.{block_at}
use Rattle.base.proofs.Steps.{steps}
use Rattle.walk.proofs.block_at.Goals as goal

pub returns-then-file_sectors-p : goal.returns-then-file_sectors-p
unfolding block_at
returns-then-file_sectors-p c = rw (← c.file_sectors.ensures) (search steps)

pub returns-then-marker_size-eq0 : goal.returns-then-marker_size-eq0
unfolding block_at
returns-then-marker_size-eq0 c = rw (← c.file_sectors.ensures, ← c.marker_size.ensures.0)
    (search steps)

pub returns : goal.returns
unfolding block_at
returns c = rw (← c.file_sectors.ensures, ← c.marker_size.ensures.0)
    (search steps)
