-- `least_sector`: a chain of one test.
use Rattle.named.specs.Named.{least_sector}
use Rattle.base.proofs.Steps.{steps}
use Rattle.named.proofs.least_sector.Goals as goal

pub returns-then-one_is_zero : goal.returns-then-one_is_zero
unfolding least_sector
returns-then-one_is_zero c = search steps

pub returns : goal.returns
unfolding least_sector
returns c = search steps
