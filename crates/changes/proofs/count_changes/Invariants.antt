-- `count_changes`: the entries of the tables below d are counted.
use Prim.Native.Nat.{◌≤◌, ◌*◌}
use mathlib.Core.Path.{◌≡◌}
use Rattle.base.specs.SumsBelow.{sum_below}
use Rattle.changes.specs.TableChanges.{differing_at}
use Rattle.changes.proofs.count_changes.Given as goal

abbrev pub invariant-loop-d : goal.invariant-loop-d
invariant-loop-d l =
    (l.n ≤ 0x80000000) × (l.count ≤ 4096 * l.d) × (l.count ≡ sum_below (differing_at l.image l.g) l.d)
