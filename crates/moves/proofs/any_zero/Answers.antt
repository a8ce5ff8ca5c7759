use native.Mathlib.Omega.{arith}
use Rattle.format.proofs.AnyBelow.{some_start, some_here, some_next, some_end}
use Rattle.moves.proofs.MoveSteps.{zero_here}
use Rattle.moves.proofs.any_zero.Goals as goal

pub loop-g-init : goal.loop-g-init
loop-g-init c = some_start _

pub returns-then-says_zero : goal.returns-then-says_zero
returns-then-says_zero c = some_here _ _ (zero_here _ _ _ c.args.h _ c.entry_of.ensures c.says_zero.ensures) _
    (omega (arith, c.grains_of-all.ensures.0)) c.if-says_zero.true

pub loop-g-preserved : goal.loop-g-preserved
loop-g-preserved c = some_next _ _ (zero_here _ _ _ c.args.h _ c.entry_of.ensures c.says_zero.ensures)
    c.loop-g.invariant c.if-says_zero.false

pub returns : goal.returns
returns c = some_end _ _ _ c.loop-g.invariant (omega (arith, c.grains_of-all.ensures.0))
    (omega (arith, c.grains_of-all.ensures.0))
