-- `high_mask`: all ones shifted down.
use Rattle.marks.proofs.Masks.{mask_high}
use borrow.Author.Rules.{rules}
use Rattle.marks.proofs.high_mask.Goals as goal

pub returns : goal.returns
returns c = search (mask_high, rules)
