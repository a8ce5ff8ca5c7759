use Rattle.layout.proofs.GrainsDone.{front_room}
use Rattle.layout.proofs.Image.{image_join}
use Rattle.layers.specs.TwoLayers.{layered}
use Rattle.writer.proofs.write_image.Goals as goal

pub write_front-requires : goal.write_front-requires
write_front-requires c = let s = c.requires in (s.layers.0.below.sound.sizes, front_room _ _ _ _ _ s.layers.1)

pub returns : goal.returns
returns c = let a = c.args in
    image_join _ _ _ c.requires.layers.0.below.sound.sizes.low (layered a.lower.now a.h a.upper.now a.k) _ _ _
    c.write_grains.ensures (rw c.requires.sectors_value at c.write_front.ensures)
    (front_room _ _ _ _ _ c.requires.layers.1)
