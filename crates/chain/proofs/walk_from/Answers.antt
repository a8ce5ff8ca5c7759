use Rattle.chain.proofs.Down.{walk_as}
use Rattle.base.proofs.Steps.{steps}
use Rattle.chain.proofs.walk_from.Goals as goal

pub returns-then-some_unlike : goal.returns-then-some_unlike
returns-then-some_unlike c = search (walk_as, steps) depth 8

pub returns-then-first-sector : goal.returns-then-first-sector
returns-then-first-sector c = search (walk_as, steps) depth 8

pub returns : goal.returns
returns c = search (walk_as, steps) depth 8
