use Rattle.base.proofs.GivenBack.{given_back}
use Rattle.profile.proofs.Taking.{not_accepted, taken_of, as_profile}
use Rattle.profile.proofs.profile.Goals as goal

pub profile_accepted-requires : goal.profile_accepted-requires
profile_accepted-requires c = taken_of _ _ c.accepted.ensures _ c.in_ok-h.was

pub returns-in_err-h : goal.returns-in_err-h
returns-in_err-h c =
    rw (given_back c.from_residual.result c.in_err-h.field-0.0 c.from_residual.ensures.1)
    (not_accepted _ _ c.accepted.ensures _ c.in_err-h.was)

pub returns : goal.returns
returns c = as_profile _ _ c.accepted.ensures _ c.in_ok-h.was _ c.profile_accepted.ensures
