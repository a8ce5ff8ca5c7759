use Rattle.accept.proofs.AcceptedHeaders.{checked_of}
use Rattle.base.proofs.GivenBack.{given_back}
use Rattle.collapse.proofs.CollapseSteps.{unknown_refused, known_on, told_left}
use Rattle.collapse.proofs.collapse.Goals as goal

pub collapse_onto-requires : goal.collapse_onto-requires
collapse_onto-requires c = checked_of _ _ _ _ c.accepted.ensures c.in_ok-h.was

pub returns-in_err-h-clause-value : goal.returns-in_err-h-clause-value
returns-in_err-h-clause-value c =
    rw (given_back c.from_residual.result c.in_err-h.field-0.0 c.from_residual.ensures.1)
    (told_left {image = c.args.out.now} {d = c.args.out.now}
    (unknown_refused _ _ _ c.accepted.ensures _ _ _ _ c.in_err-h.was)).0

pub returns-in_err-h-clause-out_after : goal.returns-in_err-h-clause-out_after
returns-in_err-h-clause-out_after c = (told_left (unknown_refused _ _ _ c.accepted.ensures _ _ _ _ c.in_err-h.was)).1

pub returns-clause-value : goal.returns-clause-value
returns-clause-value c = (told_left (known_on _ _ _ c.accepted.ensures _ _ _ _ c.in_ok-h.was c.collapse_onto.ensures)).0

pub returns-clause-out_after : goal.returns-clause-out_after
returns-clause-out_after c = (told_left (known_on _ _ _ c.accepted.ensures _ _ _ _ c.in_ok-h.was c.collapse_onto.ensures)).1
