use Rattle.base.specs.Bytes.{zeros}
use Rattle.footer.proofs.sector_not_zero.Goals as goal

pub returns : goal.returns
unfolding zeros
returns c = rw c.same_at.ensures
