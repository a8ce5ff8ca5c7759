use mathlib.Core.Path.{◌∙◌}
use Rattle.base.proofs.BoolNumber.{bool_number}
use Rattle.format.proofs.steps.Steps.new.Goals as goal

pub returns : goal.returns
returns c = rw (c.from.ensures ∙ bool_number c.args.way.one_is_zero, c.from-told.ensures)
