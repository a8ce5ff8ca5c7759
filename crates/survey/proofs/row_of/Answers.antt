use borrow.Author.Rules.{rules}
use Rattle.accept.proofs.AcceptedHeaders.{checked_of}
use Rattle.survey.proofs.RowLaws.{row_refused, row_accepted, small_refused}
use Rattle.survey.proofs.row_of.Goals as goal

pub accepted_row-requires : goal.accepted_row-requires
accepted_row-requires c = search checked_of

pub returns-in-Err : goal.returns-in-Err
returns-in-Err c = (search row_refused, search small_refused)

pub returns-in-Ok : goal.returns-in-Ok
returns-in-Ok c = (search row_accepted, search rules)
