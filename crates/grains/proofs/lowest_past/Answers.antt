use Rattle.base.specs.Pick.{pick}
use borrow.Author.Rules.{rules}
use Rattle.grains.proofs.lowest_past.Goals as goal

pub returns : goal.returns
unfolding pick
returns c = search rules
