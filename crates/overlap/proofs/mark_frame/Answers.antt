-- `mark_frame`: three calls, left where one met.
use Rattle.overlap.specs.InFile.{beside_grains}
use Rattle.overlap.proofs.Grouped.{fixed_ends}
use Rattle.window.proofs.RunLaws.{calls}
use borrow.Author.Rules.{rules}
use Rattle.overlap.proofs.mark_frame.Goals as goal

pub mark_front-requires : goal.mark_front-requires
unfolding beside_grains
mark_front-requires c = (search rules, search (fixed_ends, rules))

pub returns-then-mark_front : goal.returns-then-mark_front
unfolding beside_grains
returns-then-mark_front c = search calls depth 12

pub returns-then-mark_tables_of : goal.returns-then-mark_tables_of
unfolding beside_grains
returns-then-mark_tables_of c = search calls depth 12

pub returns : goal.returns
unfolding beside_grains
returns c = search calls depth 12
