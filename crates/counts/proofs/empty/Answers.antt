use borrow.Author.Rules.{rules}
use Rattle.base.proofs.Over.{zeros_none}
use Rattle.counts.proofs.WordsCounted.{sums_none, counted_more, counted_fits, cleared_more, emptied}
use Rattle.counts.proofs.empty.Goals as goal

pub loop-w-init : goal.loop-w-init
loop-w-init c = (sums_none _, zeros_none _ _)

pub overflow_add-total : goal.overflow_add-total
overflow_add-total c = record { fits = search (counted_fits, rules) }

pub loop-w-preserved : goal.loop-w-preserved
loop-w-preserved c = (search (counted_more, rules), search (cleared_more, rules))

pub returns : goal.returns
returns c = search (emptied, rules)
