-- `compare_tables`: the first g entries are alike, and the next stored grain stands at sector `next`.
use Prim.Native.Nat.{◌+◌, ◌*◌, ◌-◌, ◌≤◌}
use mathlib.Core.Path.{◌≡◌}
use Rattle.format.specs.Grains.{grain_map}
use Rattle.format.specs.Layout.{sector_of}
use Rattle.format.specs.declared.Kind.TheVariants.{Kdmv}
use Rattle.profile.specs.FormCompared.{AlikeTo}
use Rattle.profile.proofs.compare_tables.Given as goal

abbrev pub invariant-loop-g : goal.invariant-loop-g
invariant-loop-g l =
    (l.g ≤ l.all) × AlikeTo (l.first + 4 * l.g) l.image l.h
    × (l.next ≡ sector_of Kdmv l.h.capacity l.h.grain_size (grain_map l.image l.h) l.g)

abbrev pub decreases-loop-g : goal.decreases-loop-g
decreases-loop-g l = l.all - l.g
