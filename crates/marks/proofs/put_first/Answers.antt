-- `put_first`: the mask's sectors are marked in addition.
use Rattle.marks.proofs.RunWords.{first_put}
use borrow.Author.Rules.{rules}
use Rattle.marks.proofs.put_first.Goals as goal

pub returns : goal.returns
returns c = search (first_put, rules)
