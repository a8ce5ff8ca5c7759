use Rattle.reader.proofs.PartsServed.{part_fits, part_inside, part_read}
use borrow.Author.Rules.{rules}
use Rattle.reader.proofs.read.Goals as goal

pub overflow_add-end : goal.overflow_add-end
overflow_add-end c = search (part_fits, rules)

pub slice_bounds-result-end : goal.slice_bounds-result-end
slice_bounds-result-end c = search part_inside

pub returns : goal.returns
returns c = search part_read
