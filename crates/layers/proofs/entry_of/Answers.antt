use Rattle.format.specs.Entries.{in_table}
use Rattle.layers.proofs.Sources.{directory_read, table_read, table_as}
use Rattle.layers.proofs.entry_of.Goals as goal

pub meaning_at-table-requires : goal.meaning_at-table-requires
unfolding in_table
meaning_at-table-requires c = search directory_read

pub meaning_at-requires : goal.meaning_at-requires
unfolding in_table
meaning_at-requires c = search table_read

pub returns-in-Absent : goal.returns-in-Absent
unfolding in_table
returns-in-Absent c = search table_as

pub returns-in-Zero : goal.returns-in-Zero
unfolding in_table
returns-in-Zero c = search table_as

pub returns-in-Sector : goal.returns-in-Sector
unfolding in_table
returns-in-Sector c = search table_as
