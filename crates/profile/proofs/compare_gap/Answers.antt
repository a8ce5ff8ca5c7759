use mathlib.Core.Path.{◌∙◌}
use native.Mathlib.Omega.{arith}
use Rattle.profile.proofs.TableTurns.{gap_fits, gap_not, gap_short, gap_laid}
use Rattle.profile.proofs.compare_gap.Goals as goal

pub overflow_sub-end : goal.overflow_sub-end
overflow_sub-end c = omega (
  arith,
  (gap_fits _ _ _ _ _ 0 c.requires c.tables_at-first.ensures.0 c.grains_of.ensures.0
      c.sector_v.ensures.0 c.least-end.ensures).0,
)

pub first_nonzero-place-requires : goal.first_nonzero-place-requires
first_nonzero-place-requires c = let fits = gap_fits _ _ _ _ _ 0 c.requires c.tables_at-first.ensures.0 c.grains_of.ensures.0
    c.sector_v.ensures.0 c.least-end.ensures in
    omega arith

pub returns-then-place-end : goal.returns-then-place-end
returns-then-place-end c = c.not_normal.ensures
    ∙ gap_not _ _ _ _ _ _ c.requires c.tables_at-first.ensures.0 c.grains_of.ensures.0
    c.sector_v.ensures.0 c.least-end.ensures c.first_nonzero-place.ensures (omega arith)

pub returns-then-end-v : goal.returns-then-end-v
returns-then-end-v c = c.not_normal-then-end-v.ensures
    ∙ gap_short _ _ _ _ _ _ c.requires c.tables_at-first.ensures.0 c.grains_of.ensures.0
    c.sector_v.ensures.0 c.least-end.ensures c.first_nonzero-place.ensures (omega arith) (omega arith)

pub compare_lengths-requires : goal.compare_lengths-requires
compare_lengths-requires c = gap_laid _ _ _ _ _ _ c.requires c.tables_at-first.ensures.0 c.grains_of.ensures.0
    c.sector_v.ensures.0 c.least-end.ensures c.first_nonzero-place.ensures (omega arith) (omega arith)
