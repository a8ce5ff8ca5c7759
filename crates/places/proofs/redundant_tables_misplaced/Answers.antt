use Rattle.format.proofs.PlacesKept.{redundant_holds}
use Rattle.places.proofs.PlacesLaws.{copies_none, copies_one}
use Rattle.places.proofs.redundant_tables_misplaced.Goals as goal

pub returns-then-h-eq0 : goal.returns-then-h-eq0
returns-then-h-eq0 c = search copies_none

pub tables_past-requires : goal.tables_past-requires
tables_past-requires c = search redundant_holds

pub returns : goal.returns
returns c = search copies_one
