use Rattle.disk.specs.Split.{by_type}
use Rattle.base.proofs.Steps.{steps}
use Rattle.split.proofs.extent.by_type.Goals as goal

pub returns-then-e-eq-ZERO : goal.returns-then-e-eq-ZERO
unfolding by_type
returns-then-e-eq-ZERO c = search steps

pub returns-then-e : goal.returns-then-e
unfolding by_type
returns-then-e c = search steps

pub returns-then-e-eq-SPARSE : goal.returns-then-e-eq-SPARSE
unfolding by_type
returns-then-e-eq-SPARSE c = search steps

pub returns : goal.returns
unfolding by_type
returns c = search steps depth 8
