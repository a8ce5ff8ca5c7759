use Rattle.base.proofs.GivenBack.{given_back}
use Rattle.frame.proofs.FrameSteps.{frame_refused, frame_known, frame_told}
use Rattle.frame.proofs.frame.Goals as goal

pub frame_in-requires : goal.frame_in-requires
frame_in-requires c = search (frame_known, c.in_ok-h.was)

pub returns-in_err-h-clause-value : goal.returns-in_err-h-clause-value
returns-in_err-h-clause-value c =
    rw (given_back c.from_residual.result c.in_err-h.field-0.0 c.from_residual.ensures.1)
    (frame_refused _ _ _ c.judge.ensures _ c.in_err-h.was).0

pub returns-in_err-h-clause-list_after : goal.returns-in_err-h-clause-list_after
returns-in_err-h-clause-list_after c = (frame_refused _ _ _ c.judge.ensures _ c.in_err-h.was).1

pub returns-clause-value : goal.returns-clause-value
returns-clause-value c = (frame_told _ _ _ c.judge.ensures _ c.in_ok-h.was c.frame_in.ensures).0

pub returns-clause-list_after : goal.returns-clause-list_after
returns-clause-list_after c = (frame_told _ _ _ c.judge.ensures _ c.in_ok-h.was c.frame_in.ensures).1
