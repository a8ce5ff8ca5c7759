use mathlib.Core.Path.{sym, ◌∙◌}
use native.Mathlib.Omega.{arith}
use Rattle.walk.proofs.WalkSteps.{other_step, other_there, stop_next, grain_next}
use Rattle.walk.proofs.next_grain.Goals as goal

pub returns-in-Stop : goal.returns-in-Stop
returns-in-Stop c = search stop_next

pub overflow_add-at : goal.overflow_add-at
overflow_add-at c = let w = c.requires in
    omega (arith, other_there _ _ w _ _ _ c.block_at-block.ensures _ c.in-Other.is)

pub loop-sectors-smaller : goal.loop-sectors-smaller
loop-sectors-smaller c = let w = c.requires in
    omega (arith, other_there _ _ w _ _ _ c.block_at-block.ensures _ c.in-Other.is)

pub loop-sectors-preserved : goal.loop-sectors-preserved
loop-sectors-preserved c = sym (other_step _ _ c.requires _ _ _ c.block_at-block.ensures _ c.in-Other.is)
    ∙ c.loop-sectors.invariant

pub returns-in-Grain : goal.returns-in-Grain
returns-in-Grain c = grain_next _ _ c.requires _ _ _ c.block_at-block.ensures _ c.loop-sectors.invariant _ _
    c.in-Grain.is
