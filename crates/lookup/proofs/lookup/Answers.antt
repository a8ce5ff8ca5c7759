use Rattle.header.proofs.HeaderAnswered.{judged_sound}
use Rattle.lookup.proofs.LookupLaws.{judged_as}
use Rattle.format.specs.Source.{lookup_from}
use Rattle.base.proofs.GivenBack.{given_back}
use Rattle.lookup.proofs.lookup.Goals as goal

pub lookup_in-requires : goal.lookup_in-requires
lookup_in-requires c = search (judged_sound, c.in_ok-h.was)

pub returns-in_err-h : goal.returns-in_err-h
unfolding lookup_from
returns-in_err-h c =
    let refused = given_back c.from_residual.result c.in_err-h.field-0.0 c.from_residual.ensures.1 in
    search (judged_as, c.in_err-h.was)

pub returns : goal.returns
unfolding lookup_from
returns c = search (judged_as, c.in_ok-h.was)
