use Rattle.chain.proofs.Down.{looked_as}
use Rattle.lengths.proofs.Sums.{layer_fits, layer_is}
use Rattle.chain.proofs.looked_layer.Goals as goal

pub overflow_sub-start : goal.overflow_sub-start
overflow_sub-start c = search layer_fits

pub returns : goal.returns
returns c = looked_as _ _ _ _ c.lookup.ensures (search layer_is)
