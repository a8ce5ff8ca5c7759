use Rattle.format.proofs.Mendable.{sided_placed}
use Rattle.mendable.proofs.MendableLaws.{good_room, other_room}
use Rattle.mendable.proofs.directories_differ.Goals as goal

pub directory_entries-n-requires : goal.directory_entries-n-requires
directory_entries-n-requires c = let q = (sided_placed _ _ c.requires).sound in (q.sizes, q.some, q.few)

pub kinds_differ_below-requires : goal.kinds_differ_below-requires
kinds_differ_below-requires c = (search good_room, search other_room)

pub returns : goal.returns
returns c = rw (c.kinds_differ_below.ensures, c.directory_entries-n.ensures.0)
