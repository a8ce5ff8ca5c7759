use Rattle.grains.proofs.GrainsRule.{marker_in}
use Rattle.base.proofs.Steps.{steps}
use borrow.Author.Rules.{rules}
use Rattle.grains.proofs.grain_broken.Goals as goal

pub bad_marker-requires : goal.bad_marker-requires
bad_marker-requires c = (search marker_in, search rules, search rules)

pub returns-then-markers : goal.returns-then-markers
returns-then-markers c = search steps

pub returns : goal.returns
returns c = search steps
