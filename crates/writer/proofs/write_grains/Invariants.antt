use Rattle.layout.proofs.GrainsDone.{Done}
use Rattle.layers.specs.TwoLayers.{layered}
use Rattle.writer.proofs.write_grains.Given as goal

abbrev pub invariant-loop-g : goal.invariant-loop-g
invariant-loop-g l = Done l.table l.initial.next l.h.grain_size (layered l.lower l.h l.upper l.k) l.initial.out l.g l.out l.next
