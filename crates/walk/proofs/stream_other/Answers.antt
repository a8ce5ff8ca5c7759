use Rattle.base.proofs.Steps.{steps}
use Rattle.walk.proofs.stream_other.Goals as goal

pub returns-then-kind-eq1 : goal.returns-then-kind-eq1
returns-then-kind-eq1 c = rw (← c.number_at-kind.ensures.0) (search steps)

pub returns-then-kind-eq2 : goal.returns-then-kind-eq2
returns-then-kind-eq2 c = rw (← c.number_at-kind.ensures.0) (search steps)

pub returns : goal.returns
returns c = rw (← c.number_at-kind.ensures.0) (search steps)
