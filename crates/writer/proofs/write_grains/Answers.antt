use native.Mathlib.Omega.{arith}
use Rattle.layout.proofs.GrainsDone.{done_none, grains_room, grains_done}
use Rattle.writer.proofs.Loops.{grain_ready, grain_done}
use Rattle.writer.proofs.write_grains.Goals as goal

pub loop-g-init : goal.loop-g-init
loop-g-init c = done_none _ _ _ _ _

pub loop-g-preserved : goal.loop-g-preserved
loop-g-preserved c = let s = c.requires in
    let room = grains_room _ _ _ _ _ s.1 s.0.below.sound.sizes.low _ _ _ c.tables_at-table.ensures.0
    c.sector_v-next.ensures.0 c.grains_of-all.ensures.0 in
    grain_done _ _ _ _ s.0 _ (omega arith) _ c.source_of-source.ensures _ _ _ _ _ _
    c.loop-g.invariant room (omega arith) _ _ c.put_grain-next.ensures

pub returns : goal.returns
returns c = grains_done _ _ _ _ _ _ _ _ _ _ _ c.loop-g.invariant c.tables_at-table.ensures.0 c.sector_v-next.ensures.0
    c.grains_of-all.ensures.0 (omega arith) (omega arith)

pub put_grain-next-requires-clause-ready : goal.put_grain-next-requires-clause-ready
put_grain-next-requires-clause-ready c = let s = c.requires in
    let room = grains_room _ _ _ _ _ s.1 s.0.below.sound.sizes.low _ _ _ c.tables_at-table.ensures.0
    c.sector_v-next.ensures.0 c.grains_of-all.ensures.0 in
    (grain_ready _ _ _ _ s.0 _ (omega arith) _ c.source_of-source.ensures _ _ _ _ _ _ c.loop-g.invariant room
    (omega arith)).0

pub put_grain-next-requires-clause-standing : goal.put_grain-next-requires-clause-standing
put_grain-next-requires-clause-standing c = let s = c.requires in
    let room = grains_room _ _ _ _ _ s.1 s.0.below.sound.sizes.low _ _ _ c.tables_at-table.ensures.0
    c.sector_v-next.ensures.0 c.grains_of-all.ensures.0 in
    (grain_ready _ _ _ _ s.0 _ (omega arith) _ c.source_of-source.ensures _ _ _ _ _ _ c.loop-g.invariant room
    (omega arith)).1
