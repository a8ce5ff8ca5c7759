use native.Mathlib.Omega.{arith}
use Rattle.survey.proofs.SurveySteps.{all_told}
use Rattle.survey.proofs.survey_all.Goals as goal

pub returns : goal.returns
returns c = let p = c.put_rows-totals.ensures in all_told _ _ _ _ _ _ _ p.0 p.1 _ (grind arith) c.put_tally.ensures
