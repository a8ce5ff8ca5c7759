use Rattle.format.specs.Chain.{chain_lookup}
use Rattle.base.proofs.Steps.{steps}
use Rattle.chain.proofs.chain.Goals as goal

pub returns-then-lengths_broken : goal.returns-then-lengths_broken
unfolding chain_lookup
returns-then-lengths_broken c = search steps

pub returns : goal.returns
unfolding chain_lookup
returns c = search steps
