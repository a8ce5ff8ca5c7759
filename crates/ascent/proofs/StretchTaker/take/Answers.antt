use mathlib.Core.Path.{refl, sym, ◌∙◌}
use Rattle.ascent.proofs.Ascending.{ascend_one}
use Rattle.ascent.proofs.StretchTaker.take.Goals as goal

pub returns : goal.returns
returns c = (tt, (c.with_area.ensures ∙ sym (ascend_one _ _), refl))
