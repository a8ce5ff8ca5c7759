-- `low_mask`: all of the word's sectors but those below.
use Rattle.marks.proofs.Masks.{mask_low}
use Rattle.marks.proofs.low_mask.Goals as goal

pub returns : goal.returns
returns c = search mask_low
