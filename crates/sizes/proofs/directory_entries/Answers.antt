use borrow.Author.Rules.{rules}
use Rattle.format.specs.Geometry.{directory_entries}
use Rattle.sizes.proofs.directory_entries.Goals as goal

pub returns : goal.returns
unfolding directory_entries
returns c = search rules
