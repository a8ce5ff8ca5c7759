use Rattle.lookup.proofs.LookupLaws.{packed_source}
use Rattle.format.specs.Source.{grain_source}
use Rattle.base.proofs.Steps.{steps}
use Rattle.lookup.proofs.grain.grain_source.Goals as goal

pub returns-then-packed : goal.returns-then-packed
unfolding grain_source
returns-then-packed c = search packed_source

pub returns : goal.returns
unfolding grain_source
returns c = search steps
