use Rattle.chain.proofs.Down.{next_fits, next_ends, walk_answer, walk_below, walk_end}
use Rattle.chain.proofs.walk_down.Goals as goal

pub returns-in-Some : goal.returns-in-Some
returns-in-Some c = search walk_answer

pub overflow_sub-end : goal.overflow_sub-end
overflow_sub-end c = search next_fits

pub loop-k-preserved : goal.loop-k-preserved
loop-k-preserved c = (search next_ends, search walk_below)

pub returns : goal.returns
returns c = search walk_end
