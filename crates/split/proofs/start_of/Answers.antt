use Rattle.std.proofs.Common.{rules}
use Rattle.split.proofs.FoundExtents.{start_none, start_more, start_fits, start_there}
use Rattle.split.proofs.start_of.Goals as goal

pub loop-length-init : goal.loop-length-init
loop-length-init c = search start_none

pub overflow_add-start : goal.overflow_add-start
overflow_add-start c = search (start_fits, rules)

pub loop-length-preserved : goal.loop-length-preserved
loop-length-preserved c = search (start_more, rules)

pub returns : goal.returns
returns c = search (start_there, rules)
