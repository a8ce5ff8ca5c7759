use Rattle.accept.proofs.AcceptedHeaders.{checked_of}
use Rattle.base.proofs.GivenBack.{given_back}
use Rattle.collapse.proofs.CollapseSteps.{unknown_refused, known_on, told_left}
use Rattle.moves.proofs.MoveSteps.{moved_as}
use Rattle.moves.proofs.move_to.Goals as goal

pub move_accepted-requires : goal.move_accepted-requires
move_accepted-requires c = checked_of _ _ _ _ c.accepted_of.ensures c.in_ok-h.was

pub returns-in_err-h-clause-value : goal.returns-in_err-h-clause-value
returns-in_err-h-clause-value c =
    rw (given_back c.from_residual.result c.in_err-h.field-0.0 c.from_residual.ensures.1)
    (told_left {image = c.args.out.now} {d = c.args.out.now}
    (unknown_refused _ _ _ c.accepted_of.ensures _ _ _ _ c.in_err-h.was)).0

pub returns-in_err-h-clause-out_after : goal.returns-in_err-h-clause-out_after
returns-in_err-h-clause-out_after c =
    (told_left (unknown_refused _ _ _ c.accepted_of.ensures _ _ _ _ c.in_err-h.was)).1

pub returns-clause-value : goal.returns-clause-value
returns-clause-value c = let k = checked_of _ _ _ _ c.accepted_of.ensures c.in_ok-h.was in
    (told_left (known_on _ _ _ c.accepted_of.ensures _ _ _ _ c.in_ok-h.was
    (moved_as _ _ _ k _ c.move_accepted.ensures))).0

pub returns-clause-out_after : goal.returns-clause-out_after
returns-clause-out_after c = let k = checked_of _ _ _ _ c.accepted_of.ensures c.in_ok-h.was in
    (told_left (known_on _ _ _ c.accepted_of.ensures _ _ _ _ c.in_ok-h.was
    (moved_as _ _ _ k _ c.move_accepted.ensures))).1
