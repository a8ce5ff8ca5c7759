-- `free_word`: the mask tells.
use Rattle.marks.proofs.RunWords.{word_tested}
use borrow.Author.Rules.{rules}
use Rattle.marks.proofs.free_word.Goals as goal

pub returns : goal.returns
returns c = search (word_tested, rules)
