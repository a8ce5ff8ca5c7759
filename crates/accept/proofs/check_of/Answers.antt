use Rattle.accept.proofs.UnmarkedLeft.{left_in_file, left_apart, left_refused}
use Rattle.base.proofs.GivenBack.{given_back}
use Rattle.accept.proofs.check_of.Goals as goal

pub check_apart-requires : goal.check_apart-requires
check_apart-requires c = search (left_in_file, c.in_ok-h.was)

pub returns-in_err-h : goal.returns-in_err-h
returns-in_err-h c =
    let refused = given_back c.from_residual.result c.in_err-h.field-0.0 c.from_residual.ensures.1 in
    search (left_refused, c.in_err-h.was)

pub returns : goal.returns
returns c = search (left_apart, c.in_ok-h.was)
