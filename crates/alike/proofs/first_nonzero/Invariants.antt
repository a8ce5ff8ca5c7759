-- `first_nonzero`: the first i bytes are zero.
use Rattle.alike.proofs.Compared.{Zero}
use Rattle.alike.proofs.first_nonzero.Given as goal

abbrev pub invariant-loop-i : goal.invariant-loop-i
invariant-loop-i l = Zero l.s l.at l.i
