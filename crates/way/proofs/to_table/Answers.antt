use Rattle.format.specs.Way.{to_directory, to_table}
use Rattle.way.proofs.to_table.Goals as goal

pub returns : goal.returns
unfolding to_directory to_table
returns c = rw (c.entry_at.ensures.0, c.to_directory-before.ensures)
