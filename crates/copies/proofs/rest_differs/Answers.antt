use mathlib.Core.Path.{refl}
use borrow.Author.Rules.{rules}
use Rattle.format.proofs.AnyCounted.{any_counted}
use Rattle.copies.proofs.CopiesLaws.{pairs_here, pairs_odd, pairs_even}
use Rattle.copies.proofs.rest_differs.Goals as goal

pub returns-then-any : goal.returns-then-any
returns-then-any c = pairs_here _ _ _ _ (any_counted _ _ c.any.ensures.ran refl (λ x b q k. search rules)) refl
    c.requires.from_le_n.0 c.if-any.true

pub returns-then-n-from-eq1 : goal.returns-then-n-from-eq1
returns-then-n-from-eq1 c = pairs_odd _ _ _ _ (any_counted _ _ c.any.ensures.ran refl (λ x b q k. search rules)) refl
    c.requires.from_le_n.0 c.requires.from_le_n.1 c.if-any.false c.if-n-from-eq1.true c.differ_at.ensures

pub returns-else-n-from-eq1 : goal.returns-else-n-from-eq1
returns-else-n-from-eq1 c = pairs_even _ _ _ _ (any_counted _ _ c.any.ensures.ran refl (λ x b q k. search rules)) refl
    c.requires.from_le_n.0 c.requires.from_le_n.1 c.if-any.false c.if-n-from-eq1.false
