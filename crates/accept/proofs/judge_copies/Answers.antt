use Rattle.accept.proofs.UnmarkedSteps.{copies_broken, copies_kept}
use Rattle.accept.proofs.judge_copies.Goals as goal

pub returns-then-copies_differ : goal.returns-then-copies_differ
returns-then-copies_differ c = search copies_broken

pub returns : goal.returns
returns c = search copies_kept
