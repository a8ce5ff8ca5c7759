use Rattle.format.specs.Way.{to_grain}
use mathlib.Core.Path.{refl}
use Rattle.way.proofs.to_grain.Goals as goal

pub returns : goal.returns
unfolding to_grain
returns c = refl
