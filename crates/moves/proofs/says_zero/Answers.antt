use Rattle.format.specs.Moves.{says_zero}
use Rattle.moves.proofs.MoveSteps.{zero_as}
use Rattle.moves.proofs.says_zero.Goals as goal

pub returns-in-Absent : goal.returns-in-Absent
unfolding says_zero
returns-in-Absent c = search zero_as

pub returns-in-Zero : goal.returns-in-Zero
unfolding says_zero
returns-in-Zero c = search zero_as

pub returns-in-Sector : goal.returns-in-Sector
unfolding says_zero
returns-in-Sector c = search zero_as
