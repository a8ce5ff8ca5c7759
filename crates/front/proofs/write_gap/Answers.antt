use native.Mathlib.Omega.{arith}
use Rattle.layout.proofs.PartSizes.{gap_follows, gap_put}
use Rattle.front.proofs.write_gap.Goals as goal

pub overflow_sub-end : goal.overflow_sub-end
overflow_sub-end c = let fits = gap_follows _ _ _ c.requires.0.low _ _ c.tables_end-from.ensures.0
    c.sector_v-end.ensures.0 in
    omega arith

pub fill-requires : goal.fill-requires
fill-requires c = let fits = gap_follows _ _ _ c.requires.0.low _ _ c.tables_end-from.ensures.0
    c.sector_v-end.ensures.0 in
    omega arith

pub returns : goal.returns
returns c = gap_put _ _ _ _ _ _ _ c.fill.ensures c.tables_end-from.ensures.0 c.sector_v-end.ensures.0
