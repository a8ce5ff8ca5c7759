use Rattle.format.specs.Geometry.{grains}
use Rattle.format.proofs.PlacesKept.{primary_room, table_room, copies_room, copy_room, grains_left}
use Rattle.copies.proofs.CopiesLaws.{no_copies, both_compared}
use Rattle.copies.proofs.copies_differ.Goals as goal

pub returns-then-h-eq0 : goal.returns-then-h-eq0
unfolding grains
returns-then-h-eq0 c = search no_copies

pub returns : goal.returns
unfolding grains
returns c = search both_compared

pub directories_differ-requires-clause-n_in_bounds : goal.directories_differ-requires-clause-n_in_bounds
unfolding grains
directories_differ-requires-clause-n_in_bounds c = (search primary_room, search copies_room)

pub directories_differ-requires-clause-by_index : goal.directories_differ-requires-clause-by_index
unfolding grains
directories_differ-requires-clause-by_index c = search grains_left

pub directories_differ-requires-clause-by_index_2 : goal.directories_differ-requires-clause-by_index_2
unfolding grains
directories_differ-requires-clause-by_index_2 c = search table_room

pub directories_differ-requires-clause-by_index_3 : goal.directories_differ-requires-clause-by_index_3
unfolding grains
directories_differ-requires-clause-by_index_3 c = search copy_room
