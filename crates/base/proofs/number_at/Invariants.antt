-- `number_at`: the number of the first i bytes.
use mathlib.Core.Path.{◌≡◌}
use Rattle.base.specs.Numbers.{le_at}
use Rattle.base.proofs.number_at.Given as goal

abbrev pub invariant-loop-i : goal.invariant-loop-i
invariant-loop-i g l = l.n ≡ le_at l.s l.at l.i
