-- `free_last`: the mask tells.
use Rattle.marks.proofs.RunWords.{last_tested}
use borrow.Author.Rules.{rules}
use Rattle.marks.proofs.free_last.Goals as goal

pub returns : goal.returns
returns c = search (last_tested, rules)
