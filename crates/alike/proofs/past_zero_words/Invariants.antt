-- `past_zero_words`: the first 8 * k bytes are zero.
use Prim.Native.Nat.{◌*◌}
use Rattle.alike.specs.FirstOther.{ZerosTo}
use Rattle.alike.proofs.past_zero_words.Given as goal

abbrev pub invariant-loop-k : goal.invariant-loop-k
invariant-loop-k l = ZerosTo l.s l.at l.n (8 * l.k)
