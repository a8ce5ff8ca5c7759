-- `free_first`: the mask tells.
use Rattle.marks.proofs.RunWords.{first_tested}
use borrow.Author.Rules.{rules}
use Rattle.marks.proofs.free_first.Goals as goal

pub returns : goal.returns
returns c = search (first_tested, rules)
