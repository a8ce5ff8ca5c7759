use Rattle.tail.proofs.TailBytes.{marker_put}
use native.Mathlib.Omega.{arith}
use Rattle.tail.proofs.put_marker.Goals as goal

pub returns : goal.returns
returns c = marker_put _ _ _ _ _ _ _ _ c.fill.ensures c.put_number-3.ensures c.put_number-2.ensures c.put_number.ensures
    (omega arith)
