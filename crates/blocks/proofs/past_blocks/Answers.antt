use mathlib.Core.Path.{refl}
use native.Mathlib.Omega.{arith}
use Rattle.blocks.proofs.BlockLaws.{block_held, block_none, block_last}
use Rattle.blocks.proofs.past_blocks.Goals as goal

pub loop-b-init : goal.loop-b-init
loop-b-init g c = λ broken told j low high. absurd (omega arith)

pub returns-then-block : goal.returns-then-block
returns-then-block g c = λ broken told. block_held broken _ _ (c.loop-b.invariant broken told) (told _ _ c.block.ensures) _
    (omega arith) c.if-block.true

pub loop-b-preserved : goal.loop-b-preserved
loop-b-preserved g c = λ broken told. block_none broken _ _ (c.loop-b.invariant broken told) (told _ _ c.block.ensures)
    c.if-block.false

pub returns : goal.returns
returns g c = λ broken told. block_last broken _ c.loop-b.b _ _ c.requires.from_le_n refl (omega arith)
    (c.loop-b.invariant broken told)
