use mathlib.Core.Path.{◌≡◌}
use lib.ListN.{length}
use Rattle.format.specs.Chain.{walk_down}
use Rattle.lengths.specs.Laid.{Ends}
use Rattle.chain.proofs.walk_down.Given as goal

abbrev pub invariant-loop-k : goal.invariant-loop-k
invariant-loop-k l =
    Ends l.layers l.lengths l.k l.end
    × (walk_down l.layers l.lengths l.sector (length l.lengths) ≡ walk_down l.layers l.lengths l.sector l.k)
