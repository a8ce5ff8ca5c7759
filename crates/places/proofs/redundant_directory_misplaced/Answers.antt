use Rattle.places.proofs.PlacesLaws.{redundant_none, redundant_one}
use Rattle.places.proofs.redundant_directory_misplaced.Goals as goal

pub returns-then-h-eq0 : goal.returns-then-h-eq0
returns-then-h-eq0 c = search redundant_none

pub returns : goal.returns
returns c = search redundant_one
