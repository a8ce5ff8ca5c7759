use Rattle.accept.proofs.AcceptedHeaders.{checked_of}
use Rattle.base.proofs.GivenBack.{given_back}
use Rattle.collapse.proofs.CollapseSteps.{unknown_refused, known_on, normal_as, told_left}
use Rattle.collapse.proofs.normal.Goals as goal

pub collapse_layers-requires : goal.collapse_layers-requires
collapse_layers-requires c = let k = checked_of _ _ _ _ c.accepted.ensures c.in_ok-h.was in (k, k)

pub returns-in_err-h-clause-value : goal.returns-in_err-h-clause-value
returns-in_err-h-clause-value c =
    rw (given_back c.from_residual.result c.in_err-h.field-0.0 c.from_residual.ensures.1)
    (told_left {image = c.args.out.now} {d = c.args.out.now}
    (unknown_refused _ _ _ c.accepted.ensures _ _ _ _ c.in_err-h.was)).0

pub returns-in_err-h-clause-out_after : goal.returns-in_err-h-clause-out_after
returns-in_err-h-clause-out_after c = (told_left (unknown_refused _ _ _ c.accepted.ensures _ _ _ _ c.in_err-h.was)).1

pub returns-clause-value : goal.returns-clause-value
returns-clause-value c = let k = checked_of _ _ _ _ c.accepted.ensures c.in_ok-h.was in
    (told_left (known_on _ _ _ c.accepted.ensures _ _ _ _ c.in_ok-h.was
    (normal_as _ _ k _ c.collapse_layers.ensures))).0

pub returns-clause-out_after : goal.returns-clause-out_after
returns-clause-out_after c = let k = checked_of _ _ _ _ c.accepted.ensures c.in_ok-h.was in
    (told_left (known_on _ _ _ c.accepted.ensures _ _ _ _ c.in_ok-h.was
    (normal_as _ _ k _ c.collapse_layers.ensures))).1
