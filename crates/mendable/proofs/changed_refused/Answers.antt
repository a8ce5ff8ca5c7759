use Rattle.format.proofs.Mendable.{sided_placed}
use Rattle.mendable.proofs.MendableLaws.{past_found, filed_of, in_file_of, past_none}
use Rattle.mendable.proofs.changed_refused.Goals as goal

pub lowest_past-lowest-requires : goal.lowest_past-lowest-requires
lowest_past-lowest-requires c = search sided_placed

pub markers_refused-requires : goal.markers_refused-requires
markers_refused-requires c = (search filed_of, search in_file_of)

pub returns-in-Some : goal.returns-in-Some
returns-in-Some c = search past_found

pub returns-in-None : goal.returns-in-None
returns-in-None c = search past_none
