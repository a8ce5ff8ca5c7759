use Rattle.accept.proofs.AcceptedHeaders.{checked_of}
use Rattle.base.proofs.GivenBack.{given_back}
use Rattle.collapse.proofs.CollapseSteps.{unknown_refused, known_on, layers_as}
use Rattle.collapse.proofs.collapse_onto.Goals as goal

pub collapse_layers-requires : goal.collapse_layers-requires
collapse_layers-requires c = (search (checked_of, c.in_ok-k.was), search (checked_of, c.in_ok-k.was))

pub returns-in_err-k : goal.returns-in_err-k
returns-in_err-k c =
    rw (given_back c.from_residual.result c.in_err-k.field-0.0 c.from_residual.ensures.1)
    (unknown_refused _ _ _ c.accepted.ensures _ _ _ _ c.in_err-k.was)

pub returns : goal.returns
returns c = let k = checked_of _ _ _ _ c.accepted.ensures c.in_ok-k.was in
    known_on _ _ _ c.accepted.ensures _ _ _ _ c.in_ok-k.was
    (layers_as _ _ _ _ c.requires k _ c.collapse_layers.ensures)
