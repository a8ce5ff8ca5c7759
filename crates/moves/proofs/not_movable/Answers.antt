use native.Mathlib.Omega.{arith}
use Rattle.moves.proofs.MoveSteps.{too_small, large_enough}
use Rattle.moves.proofs.not_movable.Goals as goal

pub returns-then-h-lt8 : goal.returns-then-h-lt8
returns-then-h-lt8 c = let a = c.args in too_small a.kind a.image.now a.h (omega arith)

pub returns : goal.returns
returns c = let a = c.args in
    large_enough a.kind a.image.now a.h (omega arith) c.zero_lost.ensures
