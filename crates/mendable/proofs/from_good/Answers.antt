use Rattle.format.specs.Mend.{from_good}
use Rattle.mendable.proofs.MendableLaws.{side_as}
use Rattle.mendable.proofs.from_good.Goals as goal

pub returns-in-Primary : goal.returns-in-Primary
unfolding from_good
returns-in-Primary c = search side_as

pub returns-in-Redundant : goal.returns-in-Redundant
unfolding from_good
returns-in-Redundant c = search side_as
