use Prim.Native.Nat.{◌<◌}
use Rattle.programs.proofs.digest.Given as goal

abbrev pub invariant-loop-byte : goal.invariant-loop-byte
invariant-loop-byte l = l.sum < 36028797018963913
