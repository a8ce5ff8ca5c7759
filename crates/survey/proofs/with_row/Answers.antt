use mathlib.Core.Path.{refl}
use Rattle.format.specs.Survey.{add_row}
use Rattle.survey.proofs.RowLaws.{small_more}
use Rattle.survey.proofs.with_row.Goals as goal

pub returns : goal.returns
unfolding add_row
returns c = (refl, search small_more)
