use Prim.Native.Nat.{◌*◌, min}
use mathlib.Core.Path.{◌≡◌}
use Rattle.format.specs.Entries.{grain_entry}
use Rattle.kinds.specs.Counting.{none, with_entries}
use Rattle.kinds.proofs.grains_by_kind.Given as goal

abbrev pub invariant-loop-d : goal.invariant-loop-d
invariant-loop-d l =
    l.kinds ≡ with_entries none (grain_entry l.image l.h) (min (l.d * l.h.entries_per_table) l.all)
