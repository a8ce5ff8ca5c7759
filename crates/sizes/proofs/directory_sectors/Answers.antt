use Rattle.format.specs.Geometry.{directory_sectors}
use borrow.Author.Rules.{rules}
use Rattle.sizes.proofs.directory_sectors.Goals as goal

pub returns : goal.returns
unfolding directory_sectors
returns c = search rules
