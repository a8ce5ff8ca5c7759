use Rattle.layers.specs.TwoLayers.{from_lower}
use Rattle.layers.proofs.Sources.{lower_as}
use Rattle.layers.proofs.from_lower.Goals as goal

pub returns-in-Absent : goal.returns-in-Absent
unfolding from_lower
returns-in-Absent c = search lower_as

pub returns-in-Zero : goal.returns-in-Zero
unfolding from_lower
returns-in-Zero c = search lower_as

pub returns-in-Sector : goal.returns-in-Sector
unfolding from_lower
returns-in-Sector c = search lower_as
