use Rattle.blocks.proofs.BlockLaws.{pair_of_zeros}
use Rattle.blocks.proofs.pair_named.Goals as goal

pub returns : goal.returns
returns c = let x = c.pair_at.ensures in
    pair_of_zeros _ _ _ _ x.0 x.1 x.2
