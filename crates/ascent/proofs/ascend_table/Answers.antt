-- `ascend_table`: a directory entry that names no table, or the entries of one, and the table after them or not.
use Rattle.ascent.proofs.AscendEntries.{no_table, then_table, grains_alone}
use Rattle.ascent.proofs.ascend_table.Goals as goal

pub returns-then-t-least : goal.returns-then-t-least
returns-then-t-least c = search no_table

pub returns-then-between : goal.returns-then-between
returns-then-between c = search then_table

pub returns : goal.returns
returns c = search grains_alone
