use Rattle.kinds.proofs.Counted.{grains_absent, grains_zero, grains_named}
use Rattle.kinds.proofs.with_grains.Goals as goal

pub returns-in-Absent : goal.returns-in-Absent
returns-in-Absent c = grains_absent _ _ _ _ _ _ c.in-Absent.is c.with_many.ensures

pub returns-in-Zero : goal.returns-in-Zero
returns-in-Zero c = grains_zero _ _ _ _ _ _ c.in-Zero.is c.with_many-in-Zero.ensures

pub returns-in-Sector : goal.returns-in-Sector
returns-in-Sector c = grains_named _ _ _ _ _ _ _ c.in-Sector.is c.with_table.ensures
