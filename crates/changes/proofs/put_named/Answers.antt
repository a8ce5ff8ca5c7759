use Rattle.copies.proofs.CopiesLaws.{room_at}
use Rattle.changes.proofs.Unpaired.{none_put}
use Rattle.changes.proofs.ChangesSteps.{tables_room, tables_put}
use borrow.Author.Rules.{rules}
use Rattle.changes.proofs.put_named.Goals as goal

pub returns-in_default : goal.returns-in_default
returns-in_default c = none_put _ _ _ _ _ _ _ (λ t u e q. c.in_default.not-Sector t e)

pub returns-in_default-other : goal.returns-in_default-other
returns-in_default-other c = none_put _ _ _ _ _ _ _ (λ t u e q. c.in_default-other.not-Sector u q)

pub returns : goal.returns
returns c = search tables_put

pub put_table-requires-clause-n_bound : goal.put_table-requires-clause-n_bound
put_table-requires-clause-n_bound c = (search rules, search room_at, search room_at)

pub put_table-requires-clause-u_in_bounds : goal.put_table-requires-clause-u_in_bounds
put_table-requires-clause-u_in_bounds c = search tables_room
