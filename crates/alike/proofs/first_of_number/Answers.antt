use mathlib.Core.Path.{◌∙◌}
use borrow.Author.Rules.{rules}
use Rattle.base.proofs.SliceParts.{to_eight}
use Rattle.alike.proofs.Compared.{number_same, number_other}
use Rattle.alike.proofs.first_of_number.Goals as goal

pub returns-then-number_at-v : goal.returns-then-number_at-v
returns-then-number_at-v c = let a = c.args in
    number_same a.s.now a.at a.v _ (λ i. search (rules, c.type_inv.s i)) c.requires c.number_at.ensures.0
    c.if-number_at-v.true

pub returns : goal.returns
returns c = let a = c.args in
    number_other a.s.now _ a.at a.v _ (c.to_le_bytes.ensures ∙ to_eight a.v) c.first_other.ensures
