use Rattle.collapse.proofs.CollapseSteps.{not_clean, then_clean}
use Rattle.collapse.proofs.write_clean.Goals as goal

pub returns-then-still_open : goal.returns-then-still_open
returns-then-still_open c = not_clean _ _ _ c.still_open.ensures c.still_open-2.ensures c.if-still_open.true

pub returns : goal.returns
returns c = then_clean _ _ _ c.still_open.ensures c.still_open-2.ensures c.if-still_open.false
    c.write_fitted.ensures
