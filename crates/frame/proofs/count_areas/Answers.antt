use native.Mathlib.Omega.{arith}
use Rattle.format.proofs.PlacesKept.{primary_room}
use Rattle.frame.proofs.FrameCounts.{one_most, areas_count}
use Rattle.frame.proofs.count_areas.Goals as goal

pub tables_named-tables-requires : goal.tables_named-tables-requires
tables_named-tables-requires c = search primary_room

pub returns : goal.returns
returns c = (
  search areas_count,
  omega (
    arith,
    one_most _ _ c.from-described.ensures,
    one_most _ _ c.from-second.ensures,
    one_most _ _ c.from-ends.ensures,
  ),
)
