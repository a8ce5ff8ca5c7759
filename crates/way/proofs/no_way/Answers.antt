use Rattle.format.specs.Way.{no_way}
use mathlib.Core.Path.{refl}
use Rattle.way.proofs.no_way.Goals as goal

pub returns : goal.returns
unfolding no_way
returns c = refl
