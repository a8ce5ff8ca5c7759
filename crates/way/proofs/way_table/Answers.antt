use Rattle.way.proofs.WayLaws.{table_as}
use Rattle.format.specs.Way.{way_table}
use Rattle.way.proofs.way_table.Goals as goal

pub returns-in-Absent : goal.returns-in-Absent
unfolding way_table
returns-in-Absent c = search table_as

pub returns-in-Zero : goal.returns-in-Zero
unfolding way_table
returns-in-Zero c = search table_as
