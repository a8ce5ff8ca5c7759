use mathlib.Core.Path.{◌≡◌}
use Rattle.format.specs.Entries.{meaning_at}
use Rattle.kinds.specs.Counting.{with_entries}
use Rattle.kinds.proofs.with_table.Given as goal

abbrev pub invariant-loop-k : goal.invariant-loop-k
invariant-loop-k l = l.counted ≡ with_entries l.initial.counted (meaning_at l.image l.one_is_zero l.t) l.k
