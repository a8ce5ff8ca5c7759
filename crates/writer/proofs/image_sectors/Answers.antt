use native.Mathlib.Omega.{arith}
use Rattle.writer.proofs.Loops.{grains_small, sectors_are}
use Rattle.writer.proofs.image_sectors.Goals as goal

pub overflow_mul-result : goal.overflow_mul-result
overflow_mul-result c = let few = grains_small _ _ c.requires.below.sound.sizes _
    c.count_stored-stored.ensures.1 in omega arith

pub overflow_add-result : goal.overflow_add-result
overflow_add-result c = let few = grains_small _ _ c.requires.below.sound.sizes _
    c.count_stored-stored.ensures.1 in omega arith

pub returns : goal.returns
returns c = let few = grains_small _ _ c.requires.below.sound.sizes _ c.count_stored-stored.ensures.1 in
    (sectors_are _ _ _ _ _ _ c.sector_v.ensures.0 c.count_stored-stored.ensures.0, omega arith)
