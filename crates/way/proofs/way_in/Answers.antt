use Rattle.lookup.proofs.LookupLaws.{directory_read}
use Rattle.format.specs.Way.{way_in}
use Rattle.base.proofs.Steps.{steps}
use borrow.Author.Rules.{rules}
use Rattle.way.proofs.way_in.Goals as goal

pub returns-then-h-sector : goal.returns-then-h-sector
unfolding way_in
returns-then-h-sector c = search steps

pub returns-then-directory_misplaced : goal.returns-then-directory_misplaced
unfolding way_in
returns-then-directory_misplaced c = search steps

pub meaning_at-entry-requires : goal.meaning_at-entry-requires
unfolding way_in
meaning_at-entry-requires c = search directory_read

pub way_table-requires : goal.way_table-requires
unfolding way_in
way_table-requires c = (search rules, search directory_read)

pub returns : goal.returns
unfolding way_in
returns c = rw (← c.meaning_at-entry.ensures) (search steps)
