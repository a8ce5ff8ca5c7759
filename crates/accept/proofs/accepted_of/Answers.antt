use Rattle.accept.proofs.AcceptedHeaders.{header_refused, header_accepted}
use Rattle.base.proofs.GivenBack.{given_back}
use Rattle.accept.proofs.accepted_of.Goals as goal

pub returns-in_err-check_of : goal.returns-in_err-check_of
returns-in_err-check_of c =
    let refused = given_back c.from_residual.result c.in_err-check_of.field-0.0 c.from_residual.ensures.1 in
    search (header_refused, c.in_err-check_of.was)

pub returns : goal.returns
returns c = search (header_accepted, c.in_ok-check_of.was)
