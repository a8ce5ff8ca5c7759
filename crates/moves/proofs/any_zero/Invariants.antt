-- `any_zero`: no grain below g is zero.
use mathlib.Core.Path.{◌≡◌}
use mathlib.Core.Bool.{false}
use Rattle.format.specs.Entries.{any_below}
use Rattle.format.specs.Moves.{zero_grain}
use Rattle.moves.proofs.any_zero.Given as goal

abbrev pub invariant-loop-g : goal.invariant-loop-g
invariant-loop-g l = any_below (zero_grain l.image l.h) l.g ≡ false
