use borrow.Author.Rules.{rules}
use Rattle.format.specs.Kdmv.{kdmv_fields}
use Rattle.kdmv.proofs.fields.Goals as goal

pub returns : goal.returns
unfolding kdmv_fields
returns c = search rules
