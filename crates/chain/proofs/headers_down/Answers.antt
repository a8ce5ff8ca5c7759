use Rattle.chain.proofs.Down.{next_fits, next_ends, header_refused, header_known, headed_down}
use Rattle.chain.proofs.Down.{headers_end}
use Rattle.chain.proofs.headers_down.Goals as goal

pub returns-in-Err : goal.returns-in-Err
returns-in-Err c = search header_refused

pub overflow_sub-end : goal.overflow_sub-end
overflow_sub-end c = search next_fits

pub loop-k-preserved : goal.loop-k-preserved
loop-k-preserved c = (search next_ends, search headed_down, search header_known)

pub returns : goal.returns
returns c = search headers_end
