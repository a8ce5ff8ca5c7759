use Rattle.lengths.proofs.Sums.{Left}
use Rattle.lengths.proofs.sum_is.Given as goal

abbrev pub invariant-loop-next : goal.invariant-loop-next
invariant-loop-next l = Left l.lengths l.n l.next-index l.left
