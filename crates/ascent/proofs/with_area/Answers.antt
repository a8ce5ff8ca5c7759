-- `with_area`: each part of the stretch.
use Rattle.ascent.specs.Ascend.{stretched}
use Rattle.ascent.proofs.with_area.Goals as goal

pub returns : goal.returns
unfolding stretched
returns c = cc
