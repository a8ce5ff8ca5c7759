use Rattle.format.specs.Check.{check_apart}
use Rattle.base.proofs.Steps.{steps}
use Rattle.accept.proofs.check_apart.Goals as goal

pub returns-then-areas_meet : goal.returns-then-areas_meet
unfolding check_apart
returns-then-areas_meet c = search steps

pub returns : goal.returns
unfolding check_apart
returns c = search steps
