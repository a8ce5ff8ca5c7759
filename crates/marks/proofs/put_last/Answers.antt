-- `put_last`: the mask's sectors are marked in addition.
use Rattle.marks.proofs.RunWords.{last_put}
use borrow.Author.Rules.{rules}
use Rattle.marks.proofs.put_last.Goals as goal

pub returns : goal.returns
returns c = search (last_put, rules)
