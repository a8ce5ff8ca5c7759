use mathlib.Core.Path.{◌∙◌}
use native.Mathlib.Omega.{arith}
use Rattle.changes.proofs.ChangesSteps.{blocks_room, blocks_long, blocks_more}
use Rattle.changes.proofs.RunsPut.{run_start, run_all}
use borrow.Author.Rules.{rules}
use Rattle.changes.proofs.put_table.Goals as goal

pub loop-k-init : goal.loop-k-init
loop-k-init c = (search rules, search rules, run_start _ _ _)

pub block_entries-m-requires : goal.block_entries-m-requires
block_entries-m-requires c = c.past_alike-from.ensures.high

pub loop-k-smaller : goal.loop-k-smaller
loop-k-smaller c = omega (arith, c.past_alike-from.ensures.low, c.past_alike-from.ensures.high, c.block_entries-m.ensures)

pub loop-k-preserved : goal.loop-k-preserved
loop-k-preserved c = (
  omega (arith, c.past_alike-from.ensures.high, c.block_entries-m.ensures),
  blocks_long _ _ _ _ _ _ _ _ c.requires.u_in_bounds c.loop-k.invariant.2 c.past_alike-from.ensures
      c.block_entries-m.ensures c.put_block-next.ensures ∙ c.loop-k.invariant.1,
  blocks_more _ _ _ _ _ _ _ _ c.requires.u_in_bounds c.loop-k.invariant.2 c.past_alike-from.ensures
      c.block_entries-m.ensures c.put_block-next.ensures,
)

pub returns : goal.returns
returns c = search run_all

pub put_block-next-requires-clause-m_bound : goal.put_block-next-requires-clause-m_bound
put_block-next-requires-clause-m_bound c = let a = c.past_alike-from.ensures in let m = c.block_entries-m.ensures in
    let q = c.requires.n_bound in (omega (arith, a.high, m), omega (arith, a.high, m, q.1), omega (arith, a.high, m, q.2))

pub put_block-next-requires-clause-j_in_bounds : goal.put_block-next-requires-clause-j_in_bounds
put_block-next-requires-clause-j_in_bounds c = let a = c.past_alike-from.ensures in let m = c.block_entries-m.ensures in
    let q = c.requires.n_bound in blocks_room _ _ _ _ _
    _ _ _ c.requires.u_in_bounds c.loop-k.invariant.2 c.past_alike-from.ensures c.block_entries-m.ensures
