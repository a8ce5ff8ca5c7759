-- `mark_if`: an area that is there, or nothing.
use Rattle.window.proofs.RunLaws.{run_there, run_absent}
use Rattle.window.proofs.mark_if.Goals as goal

pub returns-then-there : goal.returns-then-there
returns-then-there c = search run_there

pub returns : goal.returns
returns c = search run_absent
