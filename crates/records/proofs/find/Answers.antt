use Rattle.records.proofs.Search.{found_told}
use Rattle.records.proofs.find.Goals as goal

pub returns-in-Some : goal.returns-in-Some
returns-in-Some c = found_told _ _ _ c.in-Some.ensures

pub returns-in-None : goal.returns-in-None
returns-in-None c = found_told _ _ _ c.in-None.ensures
