-- `clear`: the library's `fill`.
use Rattle.base.specs.Bytes.{zeros}
use Rattle.counts.proofs.clear.Goals as goal

pub returns : goal.returns
unfolding zeros
returns c = c.fill.ensures.after (λ y h. h)
