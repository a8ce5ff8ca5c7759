use Rattle.format.specs.Geometry.{grains}
use borrow.Author.Rules.{rules}
use Rattle.sizes.proofs.grains_of.Goals as goal

pub returns : goal.returns
unfolding grains
returns c = search rules
