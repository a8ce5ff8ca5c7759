use Rattle.reader.proofs.PartsServed.{served_fits}
use borrow.Author.Rules.{rules}
use Rattle.reader.proofs.part.Goals as goal

pub source_part-requires : goal.source_part-requires
source_part-requires c = search (served_fits, rules)
