use mathlib.Core.Path.{◌∙◌}
use Rattle.changes.proofs.RunsPut.{run_start, run_all}
use Rattle.changes.proofs.ChangesSteps.{block_room, block_long, block_more}
use borrow.Author.Rules.{rules}
use Rattle.changes.proofs.put_block.Goals as goal

pub loop-j-init : goal.loop-j-init
loop-j-init c = (search rules, run_start _ _ _)

pub put_change-next-requires : goal.put_change-next-requires
put_change-next-requires c = block_room _ _ _ _ _ _ _ _ _ c.requires.j_in_bounds c.loop-j.invariant.1 c.loop-j-test.true
    c.entry_at-old.ensures.0 c.entry_at-new.ensures.0

pub loop-j-preserved : goal.loop-j-preserved
loop-j-preserved c = (
  block_long _ _ _ _ _ _ _ _ _ c.requires.j_in_bounds c.loop-j.invariant.1 c.loop-j-test.true c.entry_at-old.ensures.0
      c.entry_at-new.ensures.0 c.put_change-next.ensures ∙ c.loop-j.invariant.0,
  block_more _ _ _ _ _ _ _ _ _ c.requires.j_in_bounds c.loop-j.invariant.1 c.loop-j-test.true c.entry_at-old.ensures.0
      c.entry_at-new.ensures.0 c.put_change-next.ensures,
)

pub returns : goal.returns
returns c = search run_all
