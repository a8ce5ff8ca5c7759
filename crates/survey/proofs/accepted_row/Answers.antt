use Rattle.survey.proofs.RowLaws.{row_packed, row_stored, small_packed, small_stored}
use Rattle.survey.proofs.accepted_row.Goals as goal

pub returns-then-h : goal.returns-then-h
returns-then-h c = (search row_packed, search small_packed)

pub returns : goal.returns
returns c = (search row_stored, search small_stored)
