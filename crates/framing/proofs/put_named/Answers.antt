use mathlib.Core.Logic.{⊎_elim}
use Rattle.framing.proofs.WordsLaws.{room_as, put_as, put_nothing, named_one, named_absent, named_zero}
use Rattle.framing.proofs.put_named.Goals as goal

pub put-requires : goal.put-requires
put-requires c = room_as _ _ _ _ c.requires _ (named_one _ _ _ c.in-Sector.is)

pub returns-in-Absent : goal.returns-in-Absent
returns-in-Absent c = put_nothing _ _ _ _ (⊎_elim (λ e. named_absent _ _ e) (λ e. named_zero _ _ e) c.in-Absent.is)

pub returns-in-Sector : goal.returns-in-Sector
returns-in-Sector c = put_as _ _ _ _ (named_one _ _ _ c.in-Sector.is) c.put.ensures
