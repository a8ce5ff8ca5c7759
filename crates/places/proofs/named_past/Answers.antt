use mathlib.Core.Logic.{⊎_elim}
use Rattle.places.proofs.PlacesLaws.{absent_past, zero_past, sector_past}
use Rattle.places.proofs.named_past.Goals as goal

pub returns-in-Absent : goal.returns-in-Absent
returns-in-Absent c = ⊎_elim (λ e. rw e (absent_past _ _)) (λ e. rw e (zero_past _ _)) c.in-Absent.is

pub returns-in-Sector : goal.returns-in-Sector
returns-in-Sector c = rw c.in-Sector.is (sector_past _ _ _ c.table_past.ensures)
