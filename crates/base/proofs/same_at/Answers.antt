-- `same_at`: the library's comparison of the part with the string.
use Prim.Native.Nat.{◌+◌}
use mathlib.Core.Path.{◌∙◌}
use native.Mathlib.Omega.{arith}
use lib.ListN.{length}
use Rattle.base.proofs.SliceParts.{same_part}
use Rattle.base.proofs.same_at.Goals as goal

pub returns : goal.returns
returns c = let a = c.args in
    c.eq.ensures ∙ same_part a.s.now a.at (a.at + length a.w.now) a.w.now (omega arith) (omega arith)
