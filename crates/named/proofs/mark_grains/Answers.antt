use borrow.Author.Rules.{rules}
use Rattle.named.proofs.Named.{some_least}
use Rattle.named.proofs.NamedGrains.{turn_used, turn_entry, turn_table, tables_start}
use Rattle.named.proofs.NamedGrains.{tables_more, tables_met, tables_all}
use Rattle.named.proofs.mark_grains.Goals as goal

pub loop-d-init : goal.loop-d-init
loop-d-init c = tables_start _ _ _ _ _ _ _ _ _

pub returns-then-mark_table_grains : goal.returns-then-mark_table_grains
returns-then-mark_table_grains c = tables_met _ _ _ _ _ _ _ _ _ _ _ _ _ c.loop-d.invariant c.least_sector-least.ensures
    (turn_used c.args.image.now c.args.one_is_zero c.args.packed c.args.size _ c.args.directory _ _ c.loop-d.d
    c.least_sector-least.ensures c.requires.1 _ c.ceil_div-d-end.ensures.0 c.loop-d-test.true) c.entries_in_use.ensures _ _
    c.mark_table_grains.ensures c.if-mark_table_grains.true

pub loop-d-preserved : goal.loop-d-preserved
loop-d-preserved c = tables_more _ _ _ _ _ _ _ _ _ _ _ _ _ c.loop-d.invariant c.least_sector-least.ensures
    (turn_used c.args.image.now c.args.one_is_zero c.args.packed c.args.size _ c.args.directory _ _ c.loop-d.d
    c.least_sector-least.ensures c.requires.1 _ c.ceil_div-d-end.ensures.0 c.loop-d-test.true) c.entries_in_use.ensures _ _
    c.mark_table_grains.ensures c.if-mark_table_grains.false

pub returns : goal.returns
returns c = tables_all _ _ _ _ _ _ _ _ _ _ _ _ c.loop-d.invariant c.requires.1.some c.ceil_div-d-end.ensures.0
    c.loop-d-test.false c.loop-d.auto.d-end

pub mark_table_grains-requires-clause-counted : goal.mark_table_grains-requires-clause-counted
mark_table_grains-requires-clause-counted c = (
  search rules,
  search some_least,
  turn_entry _ _ _ _ _ _ _ _ _ c.least_sector-least.ensures c.requires.1 _ c.ceil_div-d-end.ensures.0 c.loop-d-test.true,
)

pub mark_table_grains-requires-clause-listed : goal.mark_table_grains-requires-clause-listed
mark_table_grains-requires-clause-listed c = turn_table _ _ _ _ _ _ _ _ _ c.least_sector-least.ensures c.requires.1 _
    c.ceil_div-d-end.ensures.0 c.loop-d-test.true _ c.entries_in_use.ensures
