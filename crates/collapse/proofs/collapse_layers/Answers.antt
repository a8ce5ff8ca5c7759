use Rattle.collapse.proofs.Checks.{layers_of_lem}
use Rattle.collapse.proofs.CollapseSteps.{not_taken, not_alike, then_alike}
use Rattle.collapse.proofs.collapse_layers.Goals as goal

pub returns-then-not_collapsible : goal.returns-then-not_collapsible
returns-then-not_collapsible c = not_taken _ _ _ _ _ _ c.not_collapsible.ensures c.not_collapsible-2.ensures
    c.if-not_collapsible.true

pub returns-then-unlike : goal.returns-then-unlike
returns-then-unlike c = not_alike _ _ _ _ _ _ c.not_collapsible.ensures c.not_collapsible-2.ensures c.if-not_collapsible.false
    c.unlike.ensures c.if-unlike.true

pub write_clean-requires : goal.write_clean-requires
write_clean-requires c = let s = c.requires in
    layers_of_lem _ _ _ _ s.0 s.1 c.not_collapsible.ensures c.not_collapsible-2.ensures
    c.if-not_collapsible.false c.unlike.ensures c.if-unlike.false

pub returns : goal.returns
returns c = then_alike _ _ _ _ _ _ c.not_collapsible.ensures c.not_collapsible-2.ensures
    c.if-not_collapsible.false c.unlike.ensures c.if-unlike.false c.write_clean.ensures
