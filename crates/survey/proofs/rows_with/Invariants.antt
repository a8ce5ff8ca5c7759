use Prim.Native.Nat.{◌+◌, ◌*◌, ◌≤◌}
use mathlib.Core.Path.{◌≡◌}
use lib.ListN.{get_or}
use Rattle.format.specs.Survey.{count_of}
use Rattle.survey.proofs.rows_with.Given as goal

abbrev pub invariant-loop-k : goal.invariant-loop-k
invariant-loop-k l = (l.count ≤ l.k) × (l.count ≡ count_of (λ i. get_or l.rows (6 * i + 4) 0) l.number l.k)
