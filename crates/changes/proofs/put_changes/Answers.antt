use mathlib.Core.Path.{◌∙◌}
use Rattle.format.proofs.Mendable.{sided_placed}
use Rattle.framing.proofs.WordsLaws.{put_length}
use Rattle.changes.proofs.ChangesSteps.{listed_room, listed_all}
use Rattle.changes.proofs.RunsPut.{run_start, row_room, row_more}
use borrow.Author.Rules.{rules}
use Rattle.changes.proofs.put_changes.Goals as goal

pub grains_of-all-requires : goal.grains_of-all-requires
grains_of-all-requires c = (sided_placed _ _ c.requires.0).sound.sizes

pub directory_entries-n-requires : goal.directory_entries-n-requires
directory_entries-n-requires c = let q = (sided_placed _ _ c.requires.0).sound in (q.sizes, q.some, q.few)

pub loop-d-init : goal.loop-d-init
loop-d-init c = (search rules, run_start _ _ _)

pub loop-d-preserved : goal.loop-d-preserved
loop-d-preserved c = (
  put_length (row_room _ _ _ _ _ (listed_room _ _ c.requires.0 _ c.requires.1 _ c.directory_entries-n.ensures.0)
      c.loop-d.invariant.1 c.loop-d-test.true) c.put_at-next.ensures
      ∙ c.loop-d.invariant.0,
  row_more _ _ _ _ _ (listed_room _ _ c.requires.0 _ c.requires.1 _ c.directory_entries-n.ensures.0) c.loop-d.invariant.1
      c.loop-d-test.true c.put_at-next.ensures,
)

pub returns : goal.returns
returns c = search listed_all

pub put_at-next-requires-clause-sided : goal.put_at-next-requires-clause-sided
put_at-next-requires-clause-sided c = search rules

pub put_at-next-requires-clause-d_in_bounds : goal.put_at-next-requires-clause-d_in_bounds
put_at-next-requires-clause-d_in_bounds c =
    row_room _ _ _ _ _ (listed_room _ _ c.requires.0 _ c.requires.1 _ c.directory_entries-n.ensures.0) c.loop-d.invariant.1
    c.loop-d-test.true
