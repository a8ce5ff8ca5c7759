use Rattle.format.proofs.PlacesKept.{primary_room}
use Rattle.framing.proofs.FrameLaws.{tables_left, tables_right, tables_put}
use Rattle.framing.proofs.put_tables_of_both.Goals as goal

pub returns : goal.returns
returns c = search tables_put

pub put_tables-next-requires-clause-n_in_bounds : goal.put_tables-next-requires-clause-n_in_bounds
put_tables-next-requires-clause-n_in_bounds c = search primary_room

pub put_tables-next-requires-clause-n_in_bounds_2 : goal.put_tables-next-requires-clause-n_in_bounds_2
put_tables-next-requires-clause-n_in_bounds_2 c = search tables_left

pub put_copies-requires-clause-h_in_bounds : goal.put_copies-requires-clause-h_in_bounds
put_copies-requires-clause-h_in_bounds c = search tables_right
