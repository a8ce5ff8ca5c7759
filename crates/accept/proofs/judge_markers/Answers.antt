use Rattle.accept.proofs.UnmarkedSteps.{marker_found, grain_none}
use Rattle.accept.proofs.judge_markers.Goals as goal

pub returns-in-Some : goal.returns-in-Some
returns-in-Some c = search marker_found

pub returns-in-None : goal.returns-in-None
returns-in-None c = search grain_none
