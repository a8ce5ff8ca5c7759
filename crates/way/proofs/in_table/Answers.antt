use Rattle.format.specs.Way.{way_table}
use Rattle.base.proofs.Steps.{steps}
use Rattle.way.proofs.in_table.Goals as goal

pub returns-then-table_past : goal.returns-then-table_past
unfolding way_table
returns-then-table_past c = search steps

pub returns : goal.returns
unfolding way_table
returns c = search steps
