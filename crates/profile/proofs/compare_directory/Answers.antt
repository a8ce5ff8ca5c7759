use mathlib.Core.Path.{◌∙◌}
use native.Mathlib.Omega.{arith}
use Rattle.profile.proofs.EntryTurns.{directory_room, alike_as, table_on, table_not}
use Rattle.profile.proofs.compare_directory.Goals as goal

pub first_of_number-place-requires : goal.first_of_number-place-requires
first_of_number-place-requires c = let room = directory_room c.requires (omega arith) in
    omega (arith, c.tables_of-n.ensures.0)

pub returns-then-place-at : goal.returns-then-place-at
returns-then-place-at c = c.not_normal.ensures
    ∙ table_not _ _ _ _ c.loop-d.invariant c.tables_of-n.ensures.0 c.tables_at-first.ensures.0
    (omega arith) c.first_of_number-place.ensures (omega arith)

pub loop-d-preserved : goal.loop-d-preserved
loop-d-preserved c = table_on _ _ _ _ c.loop-d.invariant c.tables_of-n.ensures.0 c.tables_at-first.ensures.0
    (omega arith) c.first_of_number-place.ensures (omega arith)

pub compare_unused-requires : goal.compare_unused-requires
compare_unused-requires c = alike_as c.loop-d.invariant _ (omega (arith, c.tables_of-n.ensures.0))
