-- `put_word`: the mask's sectors are marked in addition.
use Rattle.marks.proofs.RunWords.{word_put}
use borrow.Author.Rules.{rules}
use Rattle.marks.proofs.put_word.Goals as goal

pub returns : goal.returns
returns c = search (word_put, rules)
