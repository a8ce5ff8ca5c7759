use Rattle.format.specs.Layout.{table_count}
use borrow.Author.Rules.{rules}
use Rattle.layout.proofs.tables_of.Goals as goal

pub returns : goal.returns
unfolding table_count
returns c = (rw (← c.sectors_per_table.ensures.0) c.directory_entries.ensures.0, search rules)
