use native.Mathlib.Omega.{arith}
use Rattle.survey.proofs.TallyLaws.{one_most, count_none, count_more}
use borrow.Author.Rules.{rules}
use Rattle.survey.proofs.rows_with.Goals as goal

pub loop-k-init : goal.loop-k-init
loop-k-init c = (search rules, count_none _ _)

pub loop-k-preserved : goal.loop-k-preserved
loop-k-preserved c = (
  omega (arith, one_most _ _ c.from-count.ensures),
  count_more _ _ _ _ c.loop-k.invariant.1 _ c.from-count.ensures,
)
