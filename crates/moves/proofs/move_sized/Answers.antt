use Rattle.collapse.proofs.CollapseSteps.{refused_here, not_here}
use Rattle.moves.proofs.MoveSteps.{fitted_as}
use Rattle.moves.proofs.move_sized.Goals as goal

pub returns-then-not_movable : goal.returns-then-not_movable
returns-then-not_movable c = refused_here _ _ _ _ c.not_movable.ensures c.if-not_movable.true

pub returns : goal.returns
returns c = let a = c.args in
    not_here _ _ _ _ c.not_movable.ensures c.if-not_movable.false
    (fitted_as a.kind a.image.now a.h _ c.write_fitted.ensures)
