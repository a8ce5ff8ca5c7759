use Rattle.chain.proofs.Down.{next_fits, next_ends, some_here, some_below, some_end}
use Rattle.chain.proofs.some_unlike.Goals as goal

pub returns-then-unlike_layer : goal.returns-then-unlike_layer
returns-then-unlike_layer c = search some_here

pub overflow_sub-end : goal.overflow_sub-end
overflow_sub-end c = search next_fits

pub loop-k-preserved : goal.loop-k-preserved
loop-k-preserved c = (search next_ends, search some_below)

pub returns : goal.returns
returns c = search some_end
