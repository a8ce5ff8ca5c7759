use Rattle.lookup.proofs.LookupLaws.{table_as}
use Rattle.format.specs.Source.{lookup_table}
use Rattle.lookup.proofs.lookup_table.Goals as goal

pub returns-in-Absent : goal.returns-in-Absent
unfolding lookup_table
returns-in-Absent c = search table_as

pub returns-in-Zero : goal.returns-in-Zero
unfolding lookup_table
returns-in-Zero c = search table_as
