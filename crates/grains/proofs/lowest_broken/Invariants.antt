-- No grain of a table before d, and no entry of table d before `next` or k, is at fault.
use Prim.Native.Nat.{◌≤◌, ◌-◌, ◌+◌, ◌*◌}
use Rattle.grains.proofs.GrainsLeft.{Left}
use Rattle.grains.proofs.GrainsRule.{rule_of}
use Rattle.grains.proofs.GrainsWalk.{Table}
use Rattle.grains.proofs.lowest_broken.Given as goal

-- the entries of a block
abbrev pub invariant-loop-k : goal.invariant-loop-k
invariant-loop-k l =
    (l.from ≤ l.next) × (l.next ≤ l.used) × Table l.image l.h l.all l.first l.t l.used
    × Left (rule_of l.image l.h l.markers) l.all (l.first + l.k)

-- the blocks of a table
abbrev pub invariant-loop-next : goal.invariant-loop-next
invariant-loop-next l =
    (l.next ≤ l.used) × Table l.image l.h l.all l.first l.t l.used × Left (rule_of l.image l.h l.markers) l.all
    (l.first + l.next)

abbrev pub decreases-loop-next : goal.decreases-loop-next
decreases-loop-next l = l.used - l.next

-- the tables
abbrev pub invariant-loop-d : goal.invariant-loop-d
invariant-loop-d l = Left (rule_of l.image l.h l.markers) l.all (l.d * l.h.entries_per_table)
