-- `check_apart_in`: 21, or what marking in the needed part tells.
use Rattle.accept.proofs.Checked.{in_file}
use Rattle.accept_in.proofs.LentSteps.{lent_short, part_length, lent_marked}
use Rattle.accept_in.proofs.check_apart_in.Goals as goal

pub returns-then-list-needed : goal.returns-then-list-needed
returns-then-list-needed c = search lent_short

pub mark_areas-marks-requires : goal.mark_areas-marks-requires
mark_areas-marks-requires c = (search in_file, search part_length)

pub returns : goal.returns
returns c = search lent_marked
