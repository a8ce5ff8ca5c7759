use borrow.Author.Rules.{rules}
use Rattle.format.specs.Frame.{told_area, told}
use Rattle.framing.proofs.put.Goals as goal

pub put_words-requires : goal.put_words-requires
unfolding told_area told
put_words-requires c = search rules

pub returns : goal.returns
unfolding told_area told
returns c = search rules
