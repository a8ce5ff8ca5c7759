use Rattle.frame.proofs.FrameSteps.{too_short, words_fit, listed}
use borrow.Author.Rules.{rules}
use Rattle.frame.proofs.list_areas.Goals as goal

pub returns-then-list-count : goal.returns-then-list-count
returns-then-list-count c = search too_short

pub put_frame-requires : goal.put_frame-requires
put_frame-requires c = (search rules, search words_fit)

pub returns : goal.returns
returns c = search listed
