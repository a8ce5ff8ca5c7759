use Prim.Native.Nat.{◌*◌}
use mathlib.Core.Path.{refl}
use mathlib.Core.Bool.{true, false}
use native.Mathlib.Omega.{arith}
use borrow.Author.Rules.{rules}
use Rattle.std.proofs.lemmas.Iterator.{cases_from_any, YieldsList-from_range}
use Rattle.window.specs.Run.{Window}
use Rattle.overlap.specs.InFile.{walked}
use Rattle.overlap.proofs.Windows.{windows_told}
use Rattle.overlap.proofs.windows_meet.Goals as goal

pub returns : goal.returns
returns c = let l = walked c.args.image.now c.args.h c.args.walk in let n = c.ceil_div-windows.result in
    windows_told l _ n (rw c.file_sectors.ensures at c.ceil_div-windows.ensures.0) c.requires.1 _
    (cases_from_any _ _ c.any.result (λ w. Window l (8388608 * w) true) (λ w. Window l (8388608 * w) false) c.any.ensures.ran
    (YieldsList-from_range 0 n n refl (omega arith)) (λ x q k. search rules) (λ x q k. search rules))
