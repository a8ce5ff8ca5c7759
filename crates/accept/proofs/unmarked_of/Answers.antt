use Rattle.accept.proofs.Checked.{judged_sound}
use Rattle.accept.proofs.UnmarkedLeft.{judge_known, judge_refused}
use Rattle.base.proofs.GivenBack.{given_back}
use Rattle.accept.proofs.unmarked_of.Goals as goal

pub judge_layout-requires : goal.judge_layout-requires
judge_layout-requires c = search (judged_sound, c.in_ok-h.was)

pub returns-in_err-h : goal.returns-in_err-h
returns-in_err-h c =
    let refused = given_back c.from_residual.result c.in_err-h.field-0.0 c.from_residual.ensures.1 in
    search (judge_refused, c.in_err-h.was)

pub returns : goal.returns
returns c = search (judge_known, c.in_ok-h.was)
