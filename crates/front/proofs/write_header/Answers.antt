use Rattle.front.proofs.HeaderWritten.{kdmv_as}
use Rattle.front.proofs.write_header.Goals as goal

pub returns-in-Kdmv : goal.returns-in-Kdmv
returns-in-Kdmv c = kdmv_as _ _ _ _ _ _ c.in-Kdmv.is c.write_kdmv.ensures
