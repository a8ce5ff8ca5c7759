use Rattle.base.proofs.Steps.{steps}
use Rattle.format.specs.Kdmv.{kdmv_fault}
use Rattle.kdmv.proofs.fault.Goals as goal

pub returns-then-version_broken : goal.returns-then-version_broken
unfolding kdmv_fault
returns-then-version_broken c = search steps depth 10

pub returns-then-newline_broken : goal.returns-then-newline_broken
unfolding kdmv_fault
returns-then-newline_broken c = search steps depth 10

pub returns-then-flags_broken : goal.returns-then-flags_broken
unfolding kdmv_fault
returns-then-flags_broken c = search steps depth 10

pub returns-then-sizes_broken : goal.returns-then-sizes_broken
unfolding kdmv_fault
returns-then-sizes_broken c = search steps depth 10

pub returns : goal.returns
unfolding kdmv_fault
returns c = search steps depth 10
