use Rattle.lookup.proofs.LookupLaws.{directory_read}
use Rattle.format.specs.Source.{lookup_in}
use Rattle.base.proofs.Steps.{steps}
use Rattle.lookup.proofs.lookup_in.Goals as goal

pub returns-then-h-sector : goal.returns-then-h-sector
unfolding lookup_in
returns-then-h-sector c = search steps

pub returns-then-directory_misplaced : goal.returns-then-directory_misplaced
unfolding lookup_in
returns-then-directory_misplaced c = search steps

pub meaning_at-entry-requires : goal.meaning_at-entry-requires
unfolding lookup_in
meaning_at-entry-requires c = search directory_read

pub returns : goal.returns
unfolding lookup_in
returns c = rw (← c.meaning_at-entry.ensures) (search steps)
