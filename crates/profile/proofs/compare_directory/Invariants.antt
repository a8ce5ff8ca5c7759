-- `compare_directory`: the header and the first d entries are alike.
use Prim.Native.Nat.{◌+◌, ◌*◌}
use Rattle.profile.specs.FormCompared.{AlikeTo}
use Rattle.profile.proofs.compare_directory.Given as goal

abbrev pub invariant-loop-d : goal.invariant-loop-d
invariant-loop-d l = AlikeTo (512 + 4 * l.d) l.image l.h
