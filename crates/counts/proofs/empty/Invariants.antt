-- `empty`: the words before this one are counted and cleared.
use Prim.Native.Nat.{◌*◌}
use mathlib.Core.Path.{◌≡◌}
use Rattle.base.specs.Bytes.{over, zeros}
use Rattle.base.specs.SumsBelow.{sum_below}
use Rattle.marks.specs.Marks.{marked}
use Rattle.counts.proofs.empty.Given as goal

abbrev pub invariant-loop-w : goal.invariant-loop-w
invariant-loop-w l =
    (l.total ≡ sum_below (marked l.initial.words) (64 * l.w-index)) × (l.words ≡ over l.initial.words 0 (zeros l.w-index))
