use mathlib.Core.Path.{sym}
use borrow.Author.Tests.{eq-eqb, ne_eqb}
use Rattle.format.proofs.Picked.{pick_then, pick_else}
use Rattle.format.proofs.told.SideFromU64.from.Goals as goal

pub returns-then-good-eq0 : goal.returns-then-good-eq0
returns-then-good-eq0 c = sym (pick_then _ _ _ (eq-eqb _ 0 c.if-good-eq0.true))

pub returns-else-good-eq0 : goal.returns-else-good-eq0
returns-else-good-eq0 c = sym (pick_else _ _ _ (ne_eqb _ 0 c.if-good-eq0.false))
