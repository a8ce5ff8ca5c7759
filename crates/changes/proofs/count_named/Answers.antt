use Rattle.copies.proofs.CopiesLaws.{room_at}
use Rattle.changes.proofs.Unpaired.{none_differs}
use Rattle.changes.proofs.ChangesSteps.{tables_differ_lem}
use borrow.Author.Rules.{rules}
use Rattle.changes.proofs.count_named.Goals as goal

pub returns-in_default : goal.returns-in_default
returns-in_default c = none_differs _ _ _ _ (λ t u e q. c.in_default.not-Sector t e)

pub returns-in_default-other : goal.returns-in_default-other
returns-in_default-other c = none_differs _ _ _ _ (λ t u e q. c.in_default-other.not-Sector u q)

pub count_table-requires : goal.count_table-requires
count_table-requires c = (search rules, search room_at, search room_at)

pub returns : goal.returns
returns c = (search tables_differ_lem, search rules)
