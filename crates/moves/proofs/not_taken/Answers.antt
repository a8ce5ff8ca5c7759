use Rattle.moves.proofs.MoveSteps.{taken_as}
use borrow.Author.Rules.{rules}
use Rattle.moves.proofs.not_taken.Goals as goal

pub returns-in-Kdmv : goal.returns-in-Kdmv
returns-in-Kdmv c = taken_as _ _ _ _ c.in-Kdmv.is (search rules)

pub returns-in-Cowd : goal.returns-in-Cowd
returns-in-Cowd c = taken_as _ _ _ _ c.in-Cowd.is (search rules)
