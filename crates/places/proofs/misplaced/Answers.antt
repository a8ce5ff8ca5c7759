use Rattle.format.specs.Check.{misplaced}
use Rattle.base.proofs.Steps.{steps}
use Rattle.places.proofs.misplaced.Goals as goal

pub returns-then-descriptor_misplaced : goal.returns-then-descriptor_misplaced
unfolding misplaced
returns-then-descriptor_misplaced c = search steps

pub returns-then-directory_misplaced : goal.returns-then-directory_misplaced
unfolding misplaced
returns-then-directory_misplaced c = search steps

pub returns-then-redundant_directory_misplaced : goal.returns-then-redundant_directory_misplaced
unfolding misplaced
returns-then-redundant_directory_misplaced c = search steps

pub returns-then-primary_tables_misplaced : goal.returns-then-primary_tables_misplaced
unfolding misplaced
returns-then-primary_tables_misplaced c = search steps

pub returns : goal.returns
unfolding misplaced
returns c = search steps
