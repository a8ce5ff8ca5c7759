-- `mark_grains`: the invariant says that the tables before d are marked.
use Rattle.named.proofs.NamedGrains.{Tables}
use Rattle.named.proofs.mark_grains.Given as goal

abbrev pub invariant-loop-d : goal.invariant-loop-d
invariant-loop-d l =
    Tables l.lo l.initial.words l.image l.one_is_zero l.packed l.size l.per_table l.directory l.all l.words l.d
