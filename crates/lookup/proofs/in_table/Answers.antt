use Rattle.format.specs.Source.{lookup_table}
use Rattle.base.proofs.Steps.{steps}
use Rattle.lookup.proofs.in_table.Goals as goal

pub returns-then-table_past : goal.returns-then-table_past
unfolding lookup_table
returns-then-table_past c = search steps

pub returns : goal.returns
unfolding lookup_table
returns c = rw (← c.meaning_at-entry.ensures) (search steps)
