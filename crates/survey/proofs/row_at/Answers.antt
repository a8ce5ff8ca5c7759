use borrow.Author.Rules.{rules}
use Rattle.survey.proofs.ImageLaws.{image_inside, image_fits, image_row}
use Rattle.survey.proofs.row_at.Goals as goal

pub overflow_add-end : goal.overflow_add-end
overflow_add-end c = search image_fits

pub slice_bounds-row_of-end : goal.slice_bounds-row_of-end
slice_bounds-row_of-end c = search image_inside

pub returns : goal.returns
returns c = (search image_row, search rules)
