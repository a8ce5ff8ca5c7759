use Rattle.changes.proofs.CountLaws.{one_same, one_other}
use Rattle.changes.proofs.one_if_differs.Goals as goal

pub returns-then-old-new : goal.returns-then-old-new
returns-then-old-new c = search one_same

pub returns : goal.returns
returns c = one_other _ _ c.if-old-new.false
