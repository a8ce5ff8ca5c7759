-- `mask`: what is below the run's end and not below its start.
use Rattle.marks.proofs.Masks.{mask_between}
use Rattle.marks.proofs.mask.Goals as goal

pub returns : goal.returns
returns c = search mask_between
