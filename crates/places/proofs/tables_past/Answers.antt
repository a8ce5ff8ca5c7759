use mathlib.Core.Path.{refl}
use borrow.Author.Rules.{rules}
use Rattle.format.proofs.AnyBelow.{rows_past}
use Rattle.format.proofs.AnyCounted.{any_counted}
use Rattle.places.proofs.tables_past.Goals as goal

pub returns : goal.returns
returns c = rows_past _ _ _ (any_counted _ _ c.any.ensures.ran refl (λ x b q k. search rules))
