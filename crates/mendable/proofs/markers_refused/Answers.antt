use Rattle.mendable.proofs.MendableLaws.{marker_found, marker_none}
use Rattle.mendable.proofs.markers_refused.Goals as goal

pub returns-in-Some : goal.returns-in-Some
returns-in-Some c = search marker_found

pub returns-in-None : goal.returns-in-None
returns-in-None c = search marker_none
