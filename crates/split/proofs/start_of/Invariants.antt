-- `start_of`: the first i files end at byte `start`.
use Rattle.lengths.specs.Laid.{Ends}
use Rattle.split.proofs.start_of.Given as goal

abbrev pub invariant-loop-length : goal.invariant-loop-length
invariant-loop-length l = Ends l.files l.lengths l.length-index l.start
