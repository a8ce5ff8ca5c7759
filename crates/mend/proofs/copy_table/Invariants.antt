-- `copy_table`: the first i bytes are copied.
use Prim.Native.Nat.{◌*◌}
use mathlib.Core.Path.{◌≡◌}
use lib.ListN.{length, take, drop}
use Rattle.base.specs.Bytes.{over}
use Rattle.mend.proofs.copy_table.Given as goal

abbrev pub invariant-loop-i : goal.invariant-loop-i
invariant-loop-i l =
    (length l.image ≡ length l.initial.image)
    × (l.image ≡ over l.initial.image (512 * l.u) (take l.i (drop (512 * l.t) l.initial.image)))
