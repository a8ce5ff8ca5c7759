use Rattle.layers.specs.TwoLayers.{source_from}
use Rattle.layers.proofs.Sources.{upper_as, upper_absent}
use Rattle.layers.proofs.source_of.Goals as goal

pub returns-in-Absent : goal.returns-in-Absent
unfolding source_from
returns-in-Absent c = search upper_absent

pub returns-in-Zero : goal.returns-in-Zero
unfolding source_from
returns-in-Zero c = search upper_as

pub returns-in-Sector : goal.returns-in-Sector
unfolding source_from
returns-in-Sector c = search upper_as
