use Rattle.split.proofs.ExtentLaws.{judged_refused, judged_same, judged_differs}
use Rattle.split.proofs.extent.in_accepted.Goals as goal

pub returns-then-shape-e : goal.returns-then-shape-e
returns-then-shape-e c = search judged_same

pub returns-in-Err : goal.returns-in-Err
returns-in-Err c = search judged_refused

pub returns-else-shape-e : goal.returns-else-shape-e
returns-else-shape-e c = search judged_differs
