use Rattle.disk.specs.Split.{in_plain}
use Rattle.base.proofs.Steps.{steps}
use Rattle.split.proofs.ExtentLaws.{plain_past, plain_fits}
use borrow.Author.Rules.{rules}
use Rattle.split.proofs.extent.in_plain.Goals as goal

pub returns-then-ends_past : goal.returns-then-ends_past
unfolding in_plain
returns-then-ends_past c = search (plain_past, steps)

pub overflow_add-e : goal.overflow_add-e
unfolding in_plain
overflow_add-e c = search (plain_fits, rules)

pub returns : goal.returns
unfolding in_plain
returns c = search (plain_past, steps)
