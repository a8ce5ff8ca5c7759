use Rattle.layout.proofs.PartSizes.{last_table}
use Rattle.layout.proofs.tables_end.Goals as goal

pub returns : goal.returns
returns c = let t = c.tables_at.ensures in
    let s = c.sectors_per_table.ensures in
    last_table _ _ _ _ _ _ t.0 t.1 s.0 s.2 c.tables_of.ensures.0 c.tables_of.ensures.1
