-- `copy_tables`: the tables below d are copied.
use mathlib.Core.Path.{◌≡◌}
use lib.ListN.{length}
use Rattle.format.specs.Mend.{mended_below}
use Rattle.mend.proofs.copy_tables.Given as goal

abbrev pub invariant-loop-d : goal.invariant-loop-d
invariant-loop-d l = (length l.image ≡ length l.initial.image) × (l.image ≡ mended_below l.initial.image l.g l.d)
