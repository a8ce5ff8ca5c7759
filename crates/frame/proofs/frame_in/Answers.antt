use Rattle.format.proofs.HeaderSound.{sound_of}
use Rattle.frame.proofs.FrameSteps.{misplaced_told, placed_of, placed_told}
use Rattle.frame.proofs.frame_in.Goals as goal

pub misplaced-requires : goal.misplaced-requires
misplaced-requires c = search sound_of

pub lowest_misplaced-requires : goal.lowest_misplaced-requires
lowest_misplaced-requires c = search sound_of

pub returns-then-misplaced : goal.returns-then-misplaced
returns-then-misplaced c = search misplaced_told

pub list_areas-requires : goal.list_areas-requires
list_areas-requires c = search placed_of

pub returns : goal.returns
returns c = search placed_told
