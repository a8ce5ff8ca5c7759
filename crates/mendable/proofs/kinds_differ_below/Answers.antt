use mathlib.Core.Path.{refl}
use borrow.Author.Rules.{rules}
use Rattle.format.proofs.AnyCounted.{any_counted}
use Rattle.mendable.proofs.kinds_differ_below.Goals as goal

pub returns : goal.returns
returns c = any_counted _ _ c.any.ensures.ran refl (λ x b q k. search rules)
