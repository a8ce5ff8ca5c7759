-- `mark_tables_of`: two calls, left where one met.
use Rattle.overlap.proofs.Grouped.{tables_listed, copies_listed, tables_stop, tables_all}
use borrow.Author.Rules.{rules}
use Rattle.overlap.proofs.mark_tables_of.Goals as goal

pub mark_tables_unless-requires : goal.mark_tables_unless-requires
mark_tables_unless-requires c = (search rules, search tables_listed)

pub returns-then-mark_tables_unless : goal.returns-then-mark_tables_unless
returns-then-mark_tables_unless c = search tables_stop

pub mark_tables_unless-requires-2 : goal.mark_tables_unless-requires-2
mark_tables_unless-requires-2 c = (search rules, search copies_listed)

pub returns : goal.returns
returns c = search tables_all
