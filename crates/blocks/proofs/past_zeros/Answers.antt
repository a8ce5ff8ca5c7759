use borrow.Author.Rules.{rules}
use Rattle.blocks.specs.Blocks.{named_at}
use Rattle.blocks.proofs.BlockLaws.{zeros_passed}
use Rattle.blocks.proofs.past_zeros.Goals as goal

pub returns : goal.returns
returns c = zeros_passed _ _ _ _ _ (c.past_blocks.ensures (named_at c.args.image.now c.args.t) (λ k r e. search rules))
