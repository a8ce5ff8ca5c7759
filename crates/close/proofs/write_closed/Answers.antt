use Rattle.close.proofs.Closable.{tables_few}
use Rattle.close.proofs.CloseSteps.{too_short, written}
use native.Mathlib.Omega.{arith}
use Rattle.close.proofs.write_closed.Goals as goal

pub overflow_mul-long : goal.overflow_mul-long
overflow_mul-long c = let few = tables_few _ _ c.requires.0 _ c.count-kept.ensures in
    omega (arith, c.requires.0.walkable.few)

pub overflow_add-long : goal.overflow_add-long
overflow_add-long c = let few = tables_few _ _ c.requires.0 _ c.count-kept.ensures in
    omega (arith, c.requires.0.walkable.few)

pub overflow_add-long-2 : goal.overflow_add-long-2
overflow_add-long-2 c = let few = tables_few _ _ c.requires.0 _ c.count-kept.ensures in
    omega (arith, c.requires.0.walkable.few)

pub overflow_mul-long-2 : goal.overflow_mul-long-2
overflow_mul-long-2 c = let few = tables_few _ _ c.requires.0 _ c.count-kept.ensures in
    omega (arith, c.requires.0.walkable.few)

pub returns-then-out-long : goal.returns-then-out-long
returns-then-out-long c = too_short _ _ _ c.count-kept.ensures _ _ (omega arith)

pub returns : goal.returns
returns c = written _ _ _ c.count-kept.ensures _ _ (omega arith) _ c.write_tail.ensures
