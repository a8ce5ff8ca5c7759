use Rattle.base.proofs.Steps.{steps}
use Rattle.profile.specs.FormCompared.{next_meant}
use borrow.Author.Rules.{rules}
use Rattle.profile.proofs.next_meant.Goals as goal

pub returns-then-entry-gt1 : goal.returns-then-entry-gt1
unfolding next_meant
returns-then-entry-gt1 c = search (steps, rules)

pub returns : goal.returns
unfolding next_meant
returns c = search (steps, rules)
