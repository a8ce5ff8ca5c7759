use borrow.Author.Rules.{rules}
use Rattle.named.proofs.Named.{some_least}
use Rattle.named.proofs.NamedGrains.{turn_entry, turn_table}
use Rattle.ascent.proofs.Rising.{rising_start, rising_more, rising_fell, rising_all}
use Rattle.ascent.proofs.ascend_grains.Goals as goal

pub loop-d-init : goal.loop-d-init
loop-d-init c = search rising_start

pub returns-then-reached : goal.returns-then-reached
returns-then-reached c = rising_fell _ _ _ _ _ _ _ _ _ _ _ c.ceil_div-d-end.ensures.0 c.loop-d-test.true _ _
    c.least_sector-least.ensures c.entries_in_use-n.ensures _ _ c.loop-d.invariant c.ascend_table-reached.ensures
    c.if-reached.true

pub loop-d-preserved : goal.loop-d-preserved
loop-d-preserved c = rising_more _ _ _ _ _ _ _ _ _ _ _ c.ceil_div-d-end.ensures.0 c.loop-d-test.true _ _
    c.least_sector-least.ensures c.entries_in_use-n.ensures _ _ c.loop-d.invariant c.ascend_table-reached.ensures
    c.if-reached.false

pub returns : goal.returns
returns c = rising_all _ _ _ _ _ _ _ _ _ _ _ _ c.loop-d.invariant c.ceil_div-d-end.ensures.0 c.loop-d-test.false
    c.loop-d.auto.d-end

pub ascend_table-reached-requires-clause-le_least : goal.ascend_table-reached-requires-clause-le_least
ascend_table-reached-requires-clause-le_least c = (
  search some_least,
  turn_entry _ _ _ _ _ _ _ _ _ c.least_sector-least.ensures c.requires.0 _ c.ceil_div-d-end.ensures.0 c.loop-d-test.true,
  search rules,
)

pub ascend_table-reached-requires-clause-listed : goal.ascend_table-reached-requires-clause-listed
ascend_table-reached-requires-clause-listed c = turn_table _ _ _ _ _ _ _ _ _ c.least_sector-least.ensures c.requires.0 _
    c.ceil_div-d-end.ensures.0 c.loop-d-test.true _ c.entries_in_use-n.ensures
