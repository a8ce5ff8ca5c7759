use mathlib.Core.Path.{◌≡◌}
use lib.ListN.{length}
use Rattle.format.specs.Chain.{headers_down, walk}
use Rattle.lengths.specs.Laid.{Ends}
use Rattle.chain.specs.LayerSteps.{HeadedFrom}
use Rattle.chain.proofs.headers_down.Given as goal

abbrev pub invariant-loop-k : goal.invariant-loop-k
invariant-loop-k l =
    Ends l.layers l.lengths l.k l.end
    × HeadedFrom l.layers l.lengths l.k
    × (headers_down l.layers l.lengths (length l.lengths) (walk l.layers l.lengths l.sector)
    ≡ headers_down l.layers l.lengths l.k (walk l.layers l.lengths l.sector))
