use Rattle.format.specs.Cowd.{cowd_fields}
use borrow.Author.Rules.{rules}
use Rattle.cowd.proofs.fields.Goals as goal

pub returns : goal.returns
unfolding cowd_fields
returns c = (
  rw (
    c.dirty.ensures,
    c.number_at-5.ensures.0,
    c.number_at-4.ensures.0,
    c.number_at-3.ensures.0,
    c.number_at-2.ensures.0,
    c.number_at.ensures.0,
  ),
  search rules,
)
