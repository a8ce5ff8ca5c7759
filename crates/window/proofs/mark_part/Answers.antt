-- `mark_part`: the area is clipped, and only a part in the window is marked.
use Rattle.window.proofs.RunLaws.{run_outside, run_clip}
use Rattle.window.proofs.mark_part.Goals as goal

pub returns-then-end-from : goal.returns-then-end-from
returns-then-end-from c = search run_outside

pub returns : goal.returns
returns c = search run_clip
