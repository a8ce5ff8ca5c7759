use Rattle.layout.proofs.Clipped.{grain_join}
use Rattle.layout.proofs.write_grain.Goals as goal

pub returns : goal.returns
returns c = grain_join _ _ _ _ _ c.kept-keep.ensures c.requires.2 _ _ _ c.fill.ensures
    c.copy.ensures
