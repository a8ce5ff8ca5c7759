-- `below`: none of the word's sectors, some, all.
use native.Mathlib.Omega.{arith}
use Rattle.marks.proofs.Masks.{mask_some, mask_all}
use Rattle.marks.proofs.below.Goals as goal

pub returns-then-count-lt64 : goal.returns-then-count-lt64
returns-then-count-lt64 c = mask_some _ _ (omega arith) (omega arith)

pub returns-else-count-lt64 : goal.returns-else-count-lt64
returns-else-count-lt64 c = mask_all _ _ (omega arith)
