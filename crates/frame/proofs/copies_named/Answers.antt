use Rattle.format.proofs.PlacesKept.{copies_room}
use Rattle.frame.proofs.FrameCounts.{copies_none, copies_some}
use borrow.Author.Rules.{rules}
use Rattle.frame.proofs.copies_named.Goals as goal

pub returns-then-h-eq0 : goal.returns-then-h-eq0
returns-then-h-eq0 c = (search copies_none, search rules)

pub tables_named-requires : goal.tables_named-requires
tables_named-requires c = search copies_room

pub returns : goal.returns
returns c = (search copies_some, search rules)
