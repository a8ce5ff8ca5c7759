use Prim.Native.Nat.{◌*◌}
use mathlib.Core.Path.{refl}
use native.Mathlib.Omega.{arith}
use lib.ListN.{take, drop}
use Rattle.base.proofs.Over.{over_none, over_all}
use Rattle.mend.proofs.CopyLaws.{byte_copied}
use borrow.Author.Rules.{rules}
use Rattle.mend.proofs.copy_table.Goals as goal

pub overflow_mul-from : goal.overflow_mul-from
overflow_mul-from c = omega (arith, c.requires.good)

pub overflow_mul-to : goal.overflow_mul-to
overflow_mul-to c = omega (arith, c.requires.other)

pub overflow_mul-long : goal.overflow_mul-long
overflow_mul-long c = omega (arith, c.requires.good)

pub loop-i-init : goal.loop-i-init
loop-i-init c = (refl, over_none _ _)

pub overflow_add-byte : goal.overflow_add-byte
overflow_add-byte c = omega (arith, c.requires.good)

pub bounds-image-from : goal.bounds-image-from
bounds-image-from c = omega (arith, c.requires.good)

pub overflow_add-image : goal.overflow_add-image
overflow_add-image c = omega (arith, c.requires.other)

pub bounds-image-to : goal.bounds-image-to
bounds-image-to c = omega (arith, c.requires.other)

pub loop-i-preserved : goal.loop-i-preserved
loop-i-preserved c = (
  search rules,
  byte_copied _ _ _ _ c.requires _ _ c.loop-i.invariant.1 c.loop-i-test.true,
)

pub returns : goal.returns
returns c = over_all _ _ _ c.loop-i.i (λ k. take k (drop (512 * c.args.t) c.args.image.now)) (4 * c.args.n)
    c.loop-i.invariant.1 (omega arith) (omega arith)
