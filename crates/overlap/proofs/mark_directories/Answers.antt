-- `mark_directories`: two calls, left where one met.
use Rattle.overlap.specs.InFile.{directory_areas}
use Rattle.window.proofs.RunLaws.{calls}
use Rattle.overlap.proofs.mark_directories.Goals as goal

pub returns-then-mark_area : goal.returns-then-mark_area
unfolding directory_areas
returns-then-mark_area c = search calls

pub returns : goal.returns
unfolding directory_areas
returns c = search calls
