use native.Mathlib.Omega.{arith}
use Rattle.changes.proofs.CountLaws.{count_none, count_more, count_end}
use borrow.Author.Rules.{rules}
use Rattle.changes.proofs.count_block.Goals as goal

pub loop-k-init : goal.loop-k-init
loop-k-init c = (search rules, search count_none)

pub loop-k-preserved : goal.loop-k-preserved
loop-k-preserved c = (
  omega arith,
  count_more _ _ _ _ _ _ _ _ _ c.loop-k.invariant.1 c.entry_at.ensures.0 c.entry_at-in-loop-k.ensures.0
      c.one_if_differs-count.ensures.0,
)

pub returns : goal.returns
returns c = (count_end _ _ _ _ _ _ _ c.loop-k.invariant.1 (omega arith) (omega arith), omega arith)
