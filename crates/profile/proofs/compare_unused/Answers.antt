use mathlib.Core.Path.{◌∙◌}
use native.Mathlib.Omega.{arith}
use Rattle.profile.proofs.EntryTurns.{unused_fits, unused_on, unused_not}
use Rattle.profile.proofs.compare_unused.Goals as goal

pub overflow_sub-tables : goal.overflow_sub-tables
overflow_sub-tables c = omega (arith, (unused_fits _ _ 0 c.requires c.tables_of.ensures.0 c.tables_at.ensures.0).0)

pub first_nonzero-place-requires : goal.first_nonzero-place-requires
first_nonzero-place-requires c = let fits = unused_fits _ _ 0 c.requires c.tables_of.ensures.0 c.tables_at.ensures.0 in
    omega arith

pub returns-then-place-tables : goal.returns-then-place-tables
returns-then-place-tables c = c.not_normal.ensures
    ∙ unused_not _ _ _ c.requires c.tables_of.ensures.0 c.tables_at.ensures.0
    c.first_nonzero-place.ensures (omega arith)

pub compare_tables-requires : goal.compare_tables-requires
compare_tables-requires c = unused_on _ _ _ c.requires c.tables_of.ensures.0 c.tables_at.ensures.0
    c.first_nonzero-place.ensures (omega arith)
