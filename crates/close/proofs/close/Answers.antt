use mathlib.Core.Path.{sym, ◌∙◌}
use Rattle.base.proofs.GivenBack.{given_back}
use Rattle.close.proofs.CloseSteps.{unknown_refused, known_closed}
use Rattle.close.proofs.close.Goals as goal

pub close_judged-requires : goal.close_judged-requires
close_judged-requires c = sym c.judge_start.ensures ∙ c.in_ok-h.was

pub returns-in_err-h-clause-value : goal.returns-in_err-h-clause-value
returns-in_err-h-clause-value c =
    rw (given_back c.from_residual.result c.in_err-h.field-0.0 c.from_residual.ensures.1)
    (unknown_refused _ _ _ c.judge_start.ensures _ c.in_err-h.was).0

pub returns-in_err-h-clause-out_after : goal.returns-in_err-h-clause-out_after
returns-in_err-h-clause-out_after c = (unknown_refused _ _ _ c.judge_start.ensures _ c.in_err-h.was).1

pub returns-clause-value : goal.returns-clause-value
returns-clause-value c = (known_closed _ _ _ c.judge_start.ensures _ _ _ c.in_ok-h.was c.close_judged.ensures).0

pub returns-clause-out_after : goal.returns-clause-out_after
returns-clause-out_after c = (known_closed _ _ _ c.judge_start.ensures _ _ _ c.in_ok-h.was c.close_judged.ensures).1
