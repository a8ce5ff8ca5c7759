use Rattle.format.specs.Check.{lowest_misplaced}
use Rattle.base.proofs.Steps.{steps}
use Rattle.places.proofs.lowest_misplaced.Goals as goal

pub returns-then-descriptor_misplaced : goal.returns-then-descriptor_misplaced
unfolding lowest_misplaced
returns-then-descriptor_misplaced c = search steps

pub returns-then-directory_misplaced : goal.returns-then-directory_misplaced
unfolding lowest_misplaced
returns-then-directory_misplaced c = search steps

pub returns-then-redundant_directory_misplaced : goal.returns-then-redundant_directory_misplaced
unfolding lowest_misplaced
returns-then-redundant_directory_misplaced c = search steps

pub returns-then-primary_tables_misplaced : goal.returns-then-primary_tables_misplaced
unfolding lowest_misplaced
returns-then-primary_tables_misplaced c = search steps

pub returns : goal.returns
unfolding lowest_misplaced
returns c = search steps
