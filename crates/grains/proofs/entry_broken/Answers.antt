use mathlib.Core.Logic.{⊎_elim}
use Rattle.grains.proofs.GrainsRule.{absent_kept, zero_kept, sector_broken, sector_filed}
use Rattle.grains.proofs.entry_broken.Goals as goal

pub returns-in-Absent : goal.returns-in-Absent
returns-in-Absent c = ⊎_elim (λ e. absent_kept _ _ _ _ _ _ e) (λ e. zero_kept _ _ _ _ _ _ e) c.in-Absent.is

pub returns-in-Sector : goal.returns-in-Sector
returns-in-Sector c = search sector_broken

pub grain_broken-requires-clause-e_value : goal.grain_broken-requires-clause-e_value
grain_broken-requires-clause-e_value c = search sector_filed
