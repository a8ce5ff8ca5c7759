use Prim.Native.Nat.{◌-◌}
use mathlib.Core.Path.{◌≡◌}
use Rattle.format.specs.Geometry.{file_sectors}
use Rattle.format.specs.Stream.{walk_from}
use Rattle.walk.proofs.next_grain.Given as goal

abbrev pub invariant-loop-sectors : goal.invariant-loop-sectors
invariant-loop-sectors l = walk_from l.image l.h l.at l.next ≡ walk_from l.image l.h l.p l.next

abbrev pub decreases-loop-sectors : goal.decreases-loop-sectors
decreases-loop-sectors l = file_sectors l.image - l.at
