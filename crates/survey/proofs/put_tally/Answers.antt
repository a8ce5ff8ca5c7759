use Rattle.survey.proofs.TallyLaws.{tally_none, tally_more}
use borrow.Author.Rules.{rules}
use Rattle.survey.proofs.put_tally.Goals as goal

pub loop-i-init : goal.loop-i-init
loop-i-init c = tally_none _ _

pub loop-i-preserved : goal.loop-i-preserved
loop-i-preserved c = tally_more _ _ _ _ c.loop-i.invariant _ c.rows_with.ensures (search rules)
