use mathlib.Core.Path.{◌≡◌}
use lib.ListN.{length}
use Rattle.format.specs.Header.{header_of}
use Rattle.format.specs.Entries.{any_below}
use Rattle.format.specs.Chain.{layer_at, unlike}
use Rattle.lengths.specs.Laid.{Ends}
use Rattle.chain.proofs.some_unlike.Given as goal

abbrev pub invariant-loop-k : goal.invariant-loop-k
invariant-loop-k l =
    Ends l.layers l.lengths l.k l.end
    × (any_below (λ j. unlike l.first (header_of (layer_at l.layers l.lengths j))) (length l.lengths)
    ≡ any_below (λ j. unlike l.first (header_of (layer_at l.layers l.lengths j))) l.k)
