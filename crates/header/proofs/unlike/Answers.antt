use Rattle.format.specs.Chain.{unlike}
use mathlib.Core.Path.{refl}
use Rattle.header.proofs.unlike.Goals as goal

pub returns : goal.returns
unfolding unlike
returns c = refl
