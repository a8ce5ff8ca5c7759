use Rattle.mend.proofs.MendSteps.{unmendable_told, frame_apart, short_told, mended_told}
use Rattle.mend.proofs.mend_good.Goals as goal

pub returns-then-unmendable : goal.returns-then-unmendable
returns-then-unmendable c = search unmendable_told

pub returns-then-list-count : goal.returns-then-list-count
returns-then-list-count c = short_told _ _ _ c.unmendable.ensures c.if-unmendable.false _ c.count_changes-count.ensures.0
    c.if-list-count.true

pub copy_tables-requires : goal.copy_tables-requires
copy_tables-requires c = (
  c.requires,
  frame_apart _ _ c.args.list.now c.unmendable.ensures c.if-unmendable.false,
)

pub returns : goal.returns
returns c = mended_told _ _ _ c.unmendable.ensures c.if-unmendable.false _ c.count_changes-count.ensures.0
    c.if-list-count.false c.copy_tables.ensures c.put_changes.ensures
