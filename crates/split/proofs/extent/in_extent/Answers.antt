use Rattle.disk.specs.Split.{in_extent}
use Rattle.base.proofs.Steps.{steps}
use Rattle.split.proofs.extent.in_extent.Goals as goal

pub returns-then-e-eq-NOACCESS : goal.returns-then-e-eq-NOACCESS
unfolding in_extent
returns-then-e-eq-NOACCESS c = search steps

pub returns : goal.returns
unfolding in_extent
returns c = search steps
