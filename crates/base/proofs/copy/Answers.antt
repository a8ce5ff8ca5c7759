use mathlib.Core.Path.{◌≡◌}
use native.Mathlib.Omega.{arith}
use Rattle.base.proofs.Over.{over_none, copy_more}
use Rattle.base.proofs.copy.Goals as goal

pub loop-i-init : goal.loop-i-init
loop-i-init c = over_none _ _

pub loop-i-preserved : goal.loop-i-preserved
loop-i-preserved c = let a = c.args in
    copy_more a.out.now c.loop-i.out a.at c.loop-i.i a.src.now a.n c.loop-i.invariant c.loop-i-test.true (omega arith)
    (omega arith)

pub returns : goal.returns
returns c = let all : c.loop-i.i ≡ c.args.n = omega arith in rw all at c.loop-i.invariant
