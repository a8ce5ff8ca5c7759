use lib.ListN.{length}
use Rattle.walk.specs.Walked.{rest_of}
use Rattle.walk.proofs.CountedBlocks.{Counting}
use Rattle.walk.proofs.count.Given as goal

abbrev pub invariant-loop-next : goal.invariant-loop-next
invariant-loop-next l = Counting l.image l.h l.sectors l.grains l.tables l.next

abbrev pub decreases-loop-next : goal.decreases-loop-next
decreases-loop-next l = length (rest_of l.image l.h l.next)
