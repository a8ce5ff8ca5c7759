use native.Mathlib.Omega.{arith}
use Rattle.kinds.proofs.Counted.{first_below, directory_in, table_in, grains_room, grains_more, grains_none, grains_all}
use Rattle.kinds.proofs.grains_by_kind.Goals as goal

pub loop-d-init : goal.loop-d-init
loop-d-init c = grains_none _ _ _ (omega arith)

pub meaning_at-table-requires : goal.meaning_at-table-requires
meaning_at-table-requires c =
    directory_in _ c.args.h c.requires _ c.grains_of-all.ensures.0 _ (omega (arith, c.directory_entries-tables.ensures.0))

pub overflow_sub-all : goal.overflow_sub-all
overflow_sub-all c =
    let few = first_below _ c.args.h c.requires _ c.grains_of-all.ensures.0 c.loop-d.d
    (omega (arith, c.directory_entries-tables.ensures.0)) in omega arith

pub with_grains-kinds-requires : goal.with_grains-kinds-requires
with_grains-kinds-requires c = (
  table_in _ _ c.requires _ c.grains_of-all.ensures.0 _ (omega (arith, c.directory_entries-tables.ensures.0)) _
      c.meaning_at-table.ensures _ c.entries_in_use-used.ensures,
  grains_room _ _ c.requires _ c.grains_of-all.ensures.0 _ (omega (arith, c.directory_entries-tables.ensures.0)) _
      c.meaning_at-table.ensures _ c.entries_in_use-used.ensures _ c.loop-d.invariant c.grains_of-all.ensures.1,
)

pub loop-d-preserved : goal.loop-d-preserved
loop-d-preserved c =
    grains_more _ _ c.requires _ c.grains_of-all.ensures.0 _ (omega (arith, c.directory_entries-tables.ensures.0))
    _ c.meaning_at-table.ensures _ c.entries_in_use-used.ensures _ c.loop-d.invariant _ c.with_grains-kinds.ensures

pub returns : goal.returns
returns c = grains_all _ _ c.requires _ c.grains_of-all.ensures.0 _ c.loop-d.d
    (omega (arith, c.directory_entries-tables.ensures.0)) c.loop-d.invariant
