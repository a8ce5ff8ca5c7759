use Rattle.base.proofs.GivenBack.{given_back}
use Rattle.mend.proofs.MendSteps.{mend_refused_lem, mend_known, mend_told}
use Rattle.mend.proofs.mend.Goals as goal

pub mend_known-requires : goal.mend_known-requires
mend_known-requires c = mend_known _ c.args.side c.args.changes.now _ c.judge.ensures _ c.in_ok-h.was

pub returns-in_err-h-clause-value : goal.returns-in_err-h-clause-value
returns-in_err-h-clause-value c =
    rw (given_back c.from_residual.result c.in_err-h.field-0.0 c.from_residual.ensures.1)
    (mend_refused_lem _ _ _ _ c.judge.ensures _ c.in_err-h.was).0

pub returns-in_err-h-clause-image_after : goal.returns-in_err-h-clause-image_after
returns-in_err-h-clause-image_after c = (mend_refused_lem _ _ _ _ c.judge.ensures _ c.in_err-h.was).1.0

pub returns-in_err-h-clause-changes_after : goal.returns-in_err-h-clause-changes_after
returns-in_err-h-clause-changes_after c = (mend_refused_lem _ _ _ _ c.judge.ensures _ c.in_err-h.was).1.1

pub returns-clause-value : goal.returns-clause-value
returns-clause-value c = (mend_told _ _ _ _ c.judge.ensures _ c.in_ok-h.was c.mend_known.ensures).0

pub returns-clause-image_after : goal.returns-clause-image_after
returns-clause-image_after c = (mend_told _ _ _ _ c.judge.ensures _ c.in_ok-h.was c.mend_known.ensures).1.0

pub returns-clause-changes_after : goal.returns-clause-changes_after
returns-clause-changes_after c = (mend_told _ _ _ _ c.judge.ensures _ c.in_ok-h.was c.mend_known.ensures).1.1
