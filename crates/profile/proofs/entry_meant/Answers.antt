use Rattle.base.proofs.Steps.{steps}
use Rattle.profile.specs.FormCompared.{entry_meant}
use borrow.Author.Rules.{rules}
use Rattle.profile.proofs.entry_meant.Goals as goal

pub returns-then-entry-lt2 : goal.returns-then-entry-lt2
unfolding entry_meant
returns-then-entry-lt2 c = search (steps, rules)

pub returns : goal.returns
unfolding entry_meant
returns c = search (steps, rules)
