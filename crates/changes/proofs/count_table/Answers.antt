use Rattle.changes.proofs.CountLaws.{table_none, table_more, table_all}
use borrow.Author.Rules.{rules}
use Rattle.changes.proofs.count_table.Goals as goal

pub loop-k-init : goal.loop-k-init
loop-k-init c = (search rules, search rules, search table_none)

pub loop-k-preserved : goal.loop-k-preserved
loop-k-preserved c = (search rules, search rules, search table_more)

pub returns : goal.returns
returns c = (search table_all, search rules)
