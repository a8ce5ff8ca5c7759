use Rattle.disk.specs.Split.{in_zero}
use Rattle.base.proofs.Steps.{steps}
use Rattle.split.proofs.extent.in_zero.Goals as goal

pub returns-then-file-eq0 : goal.returns-then-file-eq0
unfolding in_zero
returns-then-file-eq0 c = search steps

pub returns : goal.returns
unfolding in_zero
returns c = search steps
