use Rattle.named.proofs.Named.{run_inside}
use Rattle.named.proofs.Taken.{rows_start, row_more, row_met, rows_all}
use Rattle.named.proofs.take_run.Goals as goal

pub loop-i-init : goal.loop-i-init
loop-i-init g c = (c.requires.0, rows_start g.T.Taker.takes _ _ g.met.T.Taker.none)

pub returns-then-take_entry : goal.returns-then-take_entry
returns-then-take_entry g c = (
  c.take_entry.ensures.0,
  row_met g.T.Taker.takes _ _ _ _ _ _ c.loop-i.invariant.1 c.take_entry.ensures.1 g.met.T.Taker.more g.met.T.Taker.stop _
      c.loop-i-test.true c.if-take_entry.true,
)

pub loop-i-preserved : goal.loop-i-preserved
loop-i-preserved g c = (
  c.take_entry.ensures.0,
  row_more g.T.Taker.takes _ _ _ _ _ _ c.loop-i.invariant.1 c.take_entry.ensures.1 g.met.T.Taker.more c.if-take_entry.false,
)

pub take_entry-requires-clause-k_value : goal.take_entry-requires-clause-k_value
take_entry-requires-clause-k_value g c = run_inside _ _ _ _ _ _ _ _ c.requires.1 c.loop-i-test.true

pub returns : goal.returns
returns g c = (
  c.loop-i.invariant.0,
  rows_all g.T.Taker.takes _ _ _ _ _ c.loop-i.invariant.1 c.loop-i.auto.i-end c.loop-i-test.false,
)
