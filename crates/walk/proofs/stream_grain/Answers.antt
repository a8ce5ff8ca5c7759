use Rattle.format.specs.Stream.{if_whole}
use Rattle.base.proofs.Steps.{steps}
use Rattle.walk.proofs.stream_grain.Goals as goal

pub returns-then-ends_past : goal.returns-then-ends_past
unfolding if_whole
returns-then-ends_past c = rw (← c.file_sectors.ensures, ← c.grain_sectors-whole.ensures) (search steps)

pub returns-then-out_of_order : goal.returns-then-out_of_order
unfolding if_whole
returns-then-out_of_order c = rw (
  ← c.file_sectors.ensures,
  ← c.grain_sectors-whole.ensures,
  ← c.number_at-first.ensures.0,
) (search steps)

pub returns : goal.returns
unfolding if_whole
returns c = rw (
  ← c.file_sectors.ensures,
  ← c.grain_sectors-whole.ensures,
  ← c.number_at-first.ensures.0,
) (search steps)
