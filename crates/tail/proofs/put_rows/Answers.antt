use native.Mathlib.Omega.{arith}
use Rattle.tail.proofs.TailLeft.{left_all}
use Rattle.tail.proofs.TailRows.{done_none, row_ready, done_more, done_all}
use Rattle.tail.proofs.put_rows.Goals as goal

pub loop-d-init : goal.loop-d-init
loop-d-init c = let w = c.requires.walking in
    done_none _ _ w.0 _ _ _ _ w.1 w.2 c.requires.h_bound.0 c.requires.h_bound.1 _
    (left_all _ _ _ _ c.overhead.ensures c.next_grain.ensures)

pub put_row-rows-requires-clause-row_ready : goal.put_row-rows-requires-clause-row_ready
put_row-rows-requires-clause-row_ready c = let w = c.requires.walking in
    row_ready _ _ w.0 _ _ _ _ w.1 w.2 c.requires.h_bound.0 c.requires.h_bound.1 _ (omega arith) _ _ _ c.loop-d.invariant

pub loop-d-preserved : goal.loop-d-preserved
loop-d-preserved c = let w = c.requires.walking in
    done_more _ _ w.0 _ _ _ _ w.1 w.2 c.requires.h_bound.0 c.requires.h_bound.1 _ (omega arith) _ _ _ c.loop-d.invariant
    _ _ c.put_row-rows.ensures

pub returns : goal.returns
returns c = let w = c.requires.walking in
    done_all _ _ w.0 _ _ _ _ w.1 w.2 c.requires.h_bound.0 c.requires.h_bound.1 _ _ _ _ c.loop-d.invariant (omega arith)
