use Rattle.close.proofs.Closable.{known_long, walking_of}
use Rattle.close.proofs.CloseSteps.{not_taken, taken}
use native.Mathlib.Omega.{arith}
use Rattle.close.proofs.close_judged.Goals as goal

pub not_closable-requires : goal.not_closable-requires
not_closable-requires c = let long = known_long _ _ c.requires in omega arith

pub returns-then-not_closable : goal.returns-then-not_closable
returns-then-not_closable c = not_taken _ _ _ _ c.not_closable.ensures c.if-not_closable.true

pub write_closed-requires : goal.write_closed-requires
write_closed-requires c = walking_of _ _ c.requires c.not_closable.ensures c.if-not_closable.false

pub returns : goal.returns
returns c = taken _ _ _ _ c.not_closable.ensures c.if-not_closable.false c.write_closed.ensures
