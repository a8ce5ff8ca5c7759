use native.Mathlib.Omega.{arith}
use Rattle.layout.proofs.PartSizes.{unused_fits, unused_put}
use Rattle.front.proofs.write_unused.Goals as goal

pub overflow_sub-end : goal.overflow_sub-end
overflow_sub-end c = let fits = unused_fits _ _ _ c.requires.0.low _ _ _ c.tables_at.ensures.0
    c.grains_of.ensures.0 c.tables_end-end.ensures.0 in
    omega arith

pub fill-requires : goal.fill-requires
fill-requires c = let fits = unused_fits _ _ _ c.requires.0.low _ _ _ c.tables_at.ensures.0
    c.grains_of.ensures.0 c.tables_end-end.ensures.0 in
    omega arith

pub returns : goal.returns
returns c = unused_put _ _ _ c.requires.0.low _ _ _ _ _ c.fill.ensures c.tables_at.ensures.0
    c.grains_of.ensures.0 c.tables_end-end.ensures.0
