use Rattle.split.proofs.FoundExtents.{file_inside, file_fits, file_answer}
use Rattle.split.proofs.in_file.Goals as goal

pub overflow_add-end : goal.overflow_add-end
overflow_add-end c = search file_fits

pub slice_bounds-in_extent-end : goal.slice_bounds-in_extent-end
slice_bounds-in_extent-end c = search file_inside

pub returns : goal.returns
returns c = search file_answer
