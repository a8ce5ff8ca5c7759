use Rattle.cowd.proofs.CowdKept.{cowd_sized}
use Rattle.format.specs.Cowd.{cowd_fault}
use Rattle.base.proofs.Steps.{steps}
use Rattle.cowd.proofs.fault.Goals as goal

pub returns-then-version_broken : goal.returns-then-version_broken
unfolding cowd_fault
returns-then-version_broken c = search steps depth 8

pub returns-then-sizes_broken : goal.returns-then-sizes_broken
unfolding cowd_fault
returns-then-sizes_broken c = search steps depth 8

pub count_broken-requires : goal.count_broken-requires
unfolding cowd_fault
count_broken-requires c = search cowd_sized

pub returns-then-count_broken : goal.returns-then-count_broken
unfolding cowd_fault
returns-then-count_broken c = search steps depth 8

pub returns : goal.returns
unfolding cowd_fault
returns c = search steps depth 8
