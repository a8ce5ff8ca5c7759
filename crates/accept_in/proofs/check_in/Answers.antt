use Rattle.accept.proofs.UnmarkedLeft.{left_known}
use Rattle.accept_in.proofs.LentSteps.{lent_refused}
use Rattle.accept_in.proofs.check_in.Goals as goal

pub check_apart_in-requires : goal.check_apart_in-requires
check_apart_in-requires c = search left_known

pub returns-in-Err-clause-value : goal.returns-in-Err-clause-value
returns-in-Err-clause-value c =
    let t = lent_refused _ _ c.unmarked_of-left.ensures _ c.in-Err.is _ _ c.unmarked_by.ensures in
    t.answer

pub returns-in-Err-clause-list_after : goal.returns-in-Err-clause-list_after
returns-in-Err-clause-list_after c =
    let t = lent_refused _ _ c.unmarked_of-left.ensures _ c.in-Err.is _ _ c.unmarked_by.ensures in
    t.kept

pub returns-in-Ok-clause-value : goal.returns-in-Ok-clause-value
returns-in-Ok-clause-value c = let t = c.check_apart_in.ensures in t.answer

pub returns-in-Ok-clause-list_after : goal.returns-in-Ok-clause-list_after
returns-in-Ok-clause-list_after c = let t = c.check_apart_in.ensures in t.kept
