use native.Mathlib.Omega.{arith}
use Rattle.walk.proofs.CountedBlocks.{one_most, counting_starts, counted, counting_less, counting_on, counting_ends}
use Rattle.walk.proofs.count.Goals as goal

pub loop-next-init : goal.loop-next-init
loop-next-init c = search counting_starts

pub overflow_add-sectors : goal.overflow_add-sectors
overflow_add-sectors c =
    let g = counted _ _ c.requires.0 _ _ _ _ c.loop-next.invariant _ c.in-Some.is in omega (arith, g.here)

pub overflow_add-c : goal.overflow_add-c
overflow_add-c c = let g = counted _ _ c.requires.0 _ _ _ _ c.loop-next.invariant _ c.in-Some.is in omega (arith, g.high)

pub overflow_add-grains : goal.overflow_add-grains
overflow_add-grains c =
    let g = counted _ _ c.requires.0 _ _ _ _ c.loop-next.invariant _ c.in-Some.is in omega (arith, g.low, g.high)

pub overflow_add-tables : goal.overflow_add-tables
overflow_add-tables c =
    let g = counted _ _ c.requires.0 _ _ _ _ c.loop-next.invariant _ c.in-Some.is in
    omega (arith, c.loop-next.invariant.fewer, g.low, g.high, one_most _ _ c.from-tables.ensures)

pub loop-next-smaller : goal.loop-next-smaller
loop-next-smaller c =
    counting_less _ _ c.requires.0 _ _ _ _ c.loop-next.invariant _ c.in-Some.is _ c.next_grain-next-in-Some.ensures

pub loop-next-preserved : goal.loop-next-preserved
loop-next-preserved c =
    counting_on _ _ c.requires.0 _ _ _ _ c.loop-next.invariant _ c.in-Some.is _ c.next_grain-next-in-Some.ensures _ _
    c.next_in.ensures c.from-tables.ensures

pub returns : goal.returns
returns c = search counting_ends
