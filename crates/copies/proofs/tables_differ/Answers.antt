use borrow.Author.Rules.{rules}
use Rattle.blocks.specs.Blocks.{differs_at}
use Rattle.copies.proofs.CopiesLaws.{none_before, block_here}
use Rattle.copies.proofs.tables_differ.Goals as goal

pub overflow_sub-n : goal.overflow_sub-n
overflow_sub-n c = let p = differs_at c.args.image.now c.args.t c.args.u in
    (none_before p (c.past_blocks-k.ensures p (λ k r e. search rules))).0

pub rest_differs-requires-clause-from_le_n : goal.rest_differs-requires-clause-from_le_n
rest_differs-requires-clause-from_le_n c = let p = differs_at c.args.image.now c.args.t c.args.u in
    none_before p (c.past_blocks-k.ensures p (λ k r e. search rules))

pub returns-then-n-k-ge16 : goal.returns-then-n-k-ge16
returns-then-n-k-ge16 c = let p = differs_at c.args.image.now c.args.t c.args.u in
    block_here p (c.past_blocks-k.ensures p (λ k r e. search rules)) c.if-n-k-ge16.true
