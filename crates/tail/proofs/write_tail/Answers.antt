use Rattle.tail.proofs.TailJoined.{tail_joined}
use native.Mathlib.Omega.{arith}
use Rattle.tail.proofs.write_tail.Goals as goal

pub returns : goal.returns
returns c = let a = c.requires in
    tail_joined _ _ a.walking.0 _ c.directory_entries-n.ensures.0 (omega arith) _ a.walking.1 _ a.h_bound.1 _ _ _ _
    c.put_rows.ensures c.put_marker.ensures c.fill.ensures c.put_last.ensures
