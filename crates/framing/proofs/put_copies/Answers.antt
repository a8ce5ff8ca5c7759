use Rattle.format.proofs.PlacesKept.{copies_room}
use Rattle.framing.proofs.FrameLaws.{no_copies, copies_are, copies_fit}
use Rattle.framing.proofs.WordsLaws.{put_as, put_nothing}
use Rattle.framing.proofs.put_copies.Goals as goal

pub returns-then-h-eq0 : goal.returns-then-h-eq0
returns-then-h-eq0 c = put_nothing _ _ _ _ (no_copies _ _ c.if-h-eq0.true)

pub returns : goal.returns
returns c = search (put_as, copies_are)

pub put_tables-requires-clause-n_in_bounds : goal.put_tables-requires-clause-n_in_bounds
put_tables-requires-clause-n_in_bounds c = search copies_room

pub put_tables-requires-clause-n_in_bounds_2 : goal.put_tables-requires-clause-n_in_bounds_2
put_tables-requires-clause-n_in_bounds_2 c = search copies_fit
