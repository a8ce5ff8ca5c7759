use Rattle.accept.proofs.Checked.{placed_of}
use Rattle.accept.proofs.UnmarkedSteps.{places_broken, places_kept}
use Rattle.accept.proofs.judge_layout.Goals as goal

pub returns-then-misplaced : goal.returns-then-misplaced
returns-then-misplaced c = search places_broken

pub judge_grains-requires : goal.judge_grains-requires
judge_grains-requires c = search placed_of

pub returns : goal.returns
returns c = search places_kept
