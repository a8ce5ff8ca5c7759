use mathlib.Core.Path.{◌∙◌}
use Rattle.framing.proofs.WordsLaws.{put_length}
use Rattle.framing.proofs.WordsLoop.{rows_start, row_room, rows_more, rows_all}
use borrow.Author.Rules.{rules}
use Rattle.framing.proofs.put_tables.Goals as goal

pub loop-d-init : goal.loop-d-init
loop-d-init c = (search rules, rows_start _ _ _ _)

pub put_named-next-requires : goal.put_named-next-requires
put_named-next-requires c = rw c.meaning_at-entry.ensures
    (row_room _ _ _ _ _ _ c.requires.n_in_bounds_2 c.loop-d.invariant.1 c.loop-d-test.true)

pub loop-d-preserved : goal.loop-d-preserved
loop-d-preserved c = let room = c.requires.n_in_bounds_2 in
    let put = rw c.meaning_at-entry.ensures at c.put_named-next.ensures in (
      put_length (row_room _ _ _ _ _ _ room c.loop-d.invariant.1 c.loop-d-test.true) put ∙ c.loop-d.invariant.0,
      rows_more _ _ _ _ _ _ room c.loop-d.invariant.1 c.loop-d-test.true put,
    )

pub returns : goal.returns
returns c = rows_all _ _ _ _ _ _ c.loop-d.invariant.1 c.loop-d.auto.d-end c.loop-d-test.false
