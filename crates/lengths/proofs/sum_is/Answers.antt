use borrow.Author.Rules.{rules}
use Rattle.lengths.proofs.Sums.{sum_over, sum_more, sum_end}
use Rattle.lengths.proofs.sum_is.Goals as goal

pub returns-then-left-next : goal.returns-then-left-next
returns-then-left-next c = search (sum_over, rules)

pub loop-next-preserved : goal.loop-next-preserved
loop-next-preserved c = search (sum_more, rules)

pub returns : goal.returns
returns c = search (sum_end, rules)
