-- `mark_all_grains`: the number of grains, and the loop over their tables.
use Rattle.format.specs.Geometry.{grains}
use Rattle.overlap.proofs.Grouped.{grained, grains_run}
use borrow.Author.Rules.{rules}
use Rattle.overlap.proofs.mark_all_grains.Goals as goal

pub mark_grains-requires : goal.mark_grains-requires
unfolding grains
mark_grains-requires c = (search rules, search grained)

pub returns : goal.returns
unfolding grains
returns c = search grains_run
