-- `mark_tables_unless`: nothing, or the tables of a directory.
use Rattle.overlap.proofs.Grouped.{run_out, run_kept}
use Rattle.overlap.proofs.mark_tables_unless.Goals as goal

pub returns-then-left_out : goal.returns-then-left_out
returns-then-left_out c = search run_out

pub returns : goal.returns
returns c = search run_kept
