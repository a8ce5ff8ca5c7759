use native.Mathlib.Omega.{arith}
use Rattle.blocks.proofs.BlockLaws.{no_pair, one_pair, eight_pairs}
use Rattle.blocks.proofs.any_pair.Goals as goal

pub loop-i-init : goal.loop-i-init
loop-i-init g c = λ broken told. no_pair broken c.args.k

pub loop-i-preserved : goal.loop-i-preserved
loop-i-preserved g c = λ broken told. one_pair broken _ _ (c.loop-i.invariant broken told)
    (told c.loop-i.i _ c.pair-any.ensures)

pub returns : goal.returns
returns g c = λ broken told. eight_pairs broken _ _ (omega arith) (c.loop-i.invariant broken told)
