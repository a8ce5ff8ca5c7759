use Rattle.tail.proofs.TailRows.{Done}
use Rattle.tail.proofs.put_rows.Given as goal

abbrev pub invariant-loop-d : goal.invariant-loop-d
invariant-loop-d l = Done l.image l.h l.end l.directory l.initial.out l.d l.out l.rows.tables l.rows.next
