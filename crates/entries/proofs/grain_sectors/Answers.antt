use Rattle.entries.proofs.EntriesRead.{packed_sectors}
use Rattle.format.specs.Entries.{grain_sectors}
use Rattle.base.proofs.Steps.{steps}
use Rattle.entries.proofs.grain_sectors.Goals as goal

pub returns-then-packed : goal.returns-then-packed
unfolding grain_sectors
returns-then-packed c = search packed_sectors

pub returns-else-packed : goal.returns-else-packed
unfolding grain_sectors
returns-else-packed c = search steps
