use Rattle.writer.proofs.GrainPut.{absent_put, zero_put, lower_put, upper_put, lower_ready, upper_ready}
use Rattle.writer.proofs.put_grain.Goals as goal

pub returns-in-Absent : goal.returns-in-Absent
returns-in-Absent c = absent_put _ _ _ _ _ _ _ _ _ _ c.in-Absent.is
    c.put_number.ensures

pub returns-in-Zero : goal.returns-in-Zero
returns-in-Zero c = zero_put _ _ _ _ _ _ _ _ _ _ c.in-Zero.is
    c.put_number-in-Zero.ensures

pub returns-in-Lower : goal.returns-in-Lower
returns-in-Lower c = lower_put _ _ _ _ _ _ _ _ _ c.in-Lower.is
    c.put_stored.ensures

pub returns-in-Upper : goal.returns-in-Upper
returns-in-Upper c = upper_put _ _ _ _ _ _ _ _ _ c.in-Upper.is
    c.put_stored-in-Upper.ensures

pub put_stored-requires-clause-ready : goal.put_stored-requires-clause-ready
put_stored-requires-clause-ready c = let s = c.requires in
    (lower_ready _ _ _ _ _ _ _ _ _ s.ready s.standing c.in-Lower.is).0

pub put_stored-requires-clause-size_in_bounds : goal.put_stored-requires-clause-size_in_bounds
put_stored-requires-clause-size_in_bounds c = let s = c.requires in
    (lower_ready _ _ _ _ _ _ _ _ _ s.ready s.standing c.in-Lower.is).1

pub put_stored-requires-in-Upper-clause-ready : goal.put_stored-requires-in-Upper-clause-ready
put_stored-requires-in-Upper-clause-ready c = let s = c.requires in
    (upper_ready _ _ _ _ _ _ _ _ _ s.ready s.standing c.in-Upper.is).0

pub put_stored-requires-in-Upper-clause-size_in_bounds : goal.put_stored-requires-in-Upper-clause-size_in_bounds
put_stored-requires-in-Upper-clause-size_in_bounds c = let s = c.requires in
    (upper_ready _ _ _ _ _ _ _ _ _ s.ready s.standing c.in-Upper.is).1
