use Prim.Native.Nat.{◌≤◌}
use mathlib.Core.Path.{◌≡◌}
use Rattle.format.specs.Grains.{stored_below}
use Rattle.layers.specs.TwoLayers.{layered}
use Rattle.layers.proofs.count_stored.Given as goal

abbrev pub invariant-loop-g : goal.invariant-loop-g
invariant-loop-g l = (l.stored ≤ l.g) × (l.stored ≡ stored_below (layered l.lower l.h l.upper l.k) l.g)
