use Rattle.layout.proofs.PartSizes.{first_grain, unrounded}
use Rattle.layout.proofs.sector_v.Goals as goal

pub returns-in-Kdmv : goal.returns-in-Kdmv
returns-in-Kdmv c = let s = c.requires in
    first_grain _ _ _ _ c.tables_end-end.ensures.0 c.tables_end-end.ensures.1 c.in-Kdmv.is _ s.low
    s.high c.ceil_div.ensures.0

pub returns-in-Cowd : goal.returns-in-Cowd
returns-in-Cowd c = let t = c.tables_end-end.ensures in unrounded _ _ _ _ t.0 t.1 c.in-Cowd.is
