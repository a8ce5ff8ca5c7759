use Rattle.base.proofs.Steps.{steps}
use Rattle.accept_in.specs.Lent.{answer_of}
use Rattle.accept_in.proofs.answered.Goals as goal

pub returns-then-met : goal.returns-then-met
unfolding answer_of
returns-then-met c = search steps

pub returns : goal.returns
unfolding answer_of
returns c = search steps
