use Rattle.lengths.proofs.Sums.{ends_none}
use Rattle.survey.proofs.ImageLaws.{image_ends, image_fits, image_few}
use Rattle.survey.proofs.RowsPut.{rows_none, totals_none, totals_more, row_room, rows_more, small_none}
use borrow.Author.Rules.{rules}
use Rattle.survey.proofs.put_rows.Goals as goal

pub loop-k-init : goal.loop-k-init
loop-k-init c = (ends_none _ _, small_none, totals_none _ _, rows_none _ _ _)

pub with_row-totals-requires : goal.with_row-totals-requires
with_row-totals-requires c = (search rules, search rules, search image_few)

pub put_row-requires : goal.put_row-requires
put_row-requires c = row_room c.args.images.now c.args.lengths.now _ _ _ _ c.loop-k.invariant.3 c.requires.1
    c.loop-k-test.true _ c.row_at-row.ensures.0

pub overflow_add-start : goal.overflow_add-start
overflow_add-start c = search image_fits

pub loop-k-preserved : goal.loop-k-preserved
loop-k-preserved c = (
  search image_ends,
  search rules,
  totals_more _ _ _ _ _ _ c.loop-k.invariant.2 c.row_at-row.ensures.0 c.with_row-totals.ensures.0,
  rows_more c.args.images.now c.args.lengths.now _ _ _ _ c.loop-k.invariant.3 c.requires.1 c.loop-k-test.true _
      c.row_at-row.ensures.0 _ c.put_row.ensures,
)
