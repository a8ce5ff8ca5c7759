use Rattle.kinds.specs.Counting.{with_many}
use Rattle.kinds.proofs.with_many.Goals as goal

pub returns-in-Absent : goal.returns-in-Absent
unfolding with_many
returns-in-Absent c = rw c.in-Absent.is

pub returns-in-Zero : goal.returns-in-Zero
unfolding with_many
returns-in-Zero c = rw c.in-Zero.is

pub returns-in-Sector : goal.returns-in-Sector
unfolding with_many
returns-in-Sector c = rw c.in-Sector.is
