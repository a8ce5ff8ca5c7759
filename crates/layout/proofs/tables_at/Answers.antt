use native.Mathlib.Omega.{arith}
use Rattle.layout.proofs.PartSizes.{directory_few, first_table}
use Rattle.layout.proofs.tables_at.Goals as goal

pub overflow_add-result : goal.overflow_add-result
overflow_add-result c = omega (arith, directory_few _ _ c.tables_of.ensures.1 c.directory_sectors.ensures)

pub returns : goal.returns
returns c = let b = c.head_sectors.ensures in
    first_table _ _ _ _ _ _ b.0 b.1 c.tables_of.ensures.0 c.tables_of.ensures.1
    c.directory_sectors.ensures
