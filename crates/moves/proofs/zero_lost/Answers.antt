use Rattle.moves.proofs.MoveSteps.{lost_as}
use mathlib.Core.Path.{refl}
use Rattle.moves.proofs.zero_lost.Goals as goal

pub returns-in-Kdmv : goal.returns-in-Kdmv
returns-in-Kdmv c = lost_as _ _ _ _ _ c.in-Kdmv.is refl

pub returns-in-Cowd : goal.returns-in-Cowd
returns-in-Cowd c = lost_as _ _ _ _ _ c.in-Cowd.is c.any_zero.ensures
