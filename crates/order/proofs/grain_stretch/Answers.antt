-- `grain_stretch`: the number of grains, and the loop over their tables.
use Rattle.format.specs.Geometry.{grains}
use Rattle.overlap.proofs.Grouped.{grained}
use Rattle.order.proofs.Ordered.{stretch_of}
use borrow.Author.Rules.{rules}
use Rattle.order.proofs.grain_stretch.Goals as goal

pub ascend_grains-requires : goal.ascend_grains-requires
unfolding grains
ascend_grains-requires c = (search grained, search rules)

pub returns : goal.returns
unfolding grains
returns c = search stretch_of
