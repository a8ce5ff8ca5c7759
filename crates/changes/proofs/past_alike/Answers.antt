use borrow.Author.Rules.{rules}
use Rattle.blocks.specs.Blocks.{differs_at}
use Rattle.changes.proofs.CountLaws.{past_same}
use Rattle.changes.proofs.past_alike.Goals as goal

pub returns : goal.returns
returns c = past_same _ _ _ _ _ _
    (c.past_blocks.ensures (differs_at c.args.image.now c.args.t c.args.u) (λ k r e. search rules))
