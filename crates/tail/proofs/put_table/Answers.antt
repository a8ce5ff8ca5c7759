use Rattle.tail.proofs.TailBytes.{table_put}
use native.Mathlib.Omega.{arith}
use Rattle.tail.proofs.put_table.Goals as goal

pub returns : goal.returns
returns c = (
  table_put _ _ _ _ _ _ c.put_entries.ensures.0 c.put_marker.ensures (omega arith),
  c.put_entries.ensures.1,
)
