use Rattle.blocks.proofs.BlockLaws.{pair_compared}
use Rattle.blocks.proofs.pair_differs.Goals as goal

pub returns : goal.returns
returns c = let x = c.pair_at.ensures in
    let y = c.pair_at-2.ensures in
    pair_compared _ _ _ _ x.0 x.1 x.2 _ _ y.0 y.1 y.2
