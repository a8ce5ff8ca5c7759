use Rattle.tail.proofs.TailBytes.{last_put}
use native.Mathlib.Omega.{arith}
use Rattle.tail.proofs.put_last.Goals as goal

pub returns : goal.returns
returns c = last_put _ _ _ _ _ _ _ _ _ c.fill.ensures c.copy-2.ensures c.put_number.ensures c.copy.ensures
    c.put_marker.ensures (omega arith) (omega arith)
