-- `ascend_grains`: the invariant says that the tables before d are in the stretch, and that it has not fallen.
use Rattle.ascent.proofs.Rising.{Rising}
use Rattle.ascent.proofs.ascend_grains.Given as goal

abbrev pub invariant-loop-d : goal.invariant-loop-d
invariant-loop-d l =
    Rising l.image l.between l.sectors l.one_is_zero l.packed l.size l.per_table l.directory l.all l.reached l.d
