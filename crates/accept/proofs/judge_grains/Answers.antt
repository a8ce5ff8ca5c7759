use Rattle.format.specs.Check.{check_grains}
use Rattle.accept.proofs.Checked.{filed_of}
use Rattle.accept.proofs.UnmarkedSteps.{past_found, grain_none}
use Rattle.accept.proofs.judge_grains.Goals as goal

pub judge_markers-requires : goal.judge_markers-requires
unfolding check_grains
judge_markers-requires c = search filed_of

pub returns-in-Some : goal.returns-in-Some
unfolding check_grains
returns-in-Some c = search past_found

pub returns-in-None : goal.returns-in-None
unfolding check_grains
returns-in-None c = search grain_none
