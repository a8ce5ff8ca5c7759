use mathlib.Core.Path.{refl}
use native.Mathlib.Omega.{arith}
use Rattle.named.proofs.Named.{listed_run, zeros_rows}
use Rattle.named.proofs.Taken.{rows_start, rows_more, rows_met, rows_all}
use borrow.Author.Rules.{rules}
use Rattle.named.proofs.take_entries.Goals as goal

pub loop-k-init : goal.loop-k-init
loop-k-init g c = (search rules, c.requires.0, rows_start g.T.Taker.takes _ _ g.met.T.Taker.none)

pub take_run-requires : goal.take_run-requires
take_run-requires g c = (
  c.loop-k.invariant.1,
  listed_run _ _ _ _ _ _ _ _ c.requires.2 c.past_zeros-from.ensures.high
      c.block_entries-count.ensures,
)

pub returns-then-take_run : goal.returns-then-take_run
returns-then-take_run g c = let z = zeros_rows c.args.image.now c.args.least c.args.packed c.args.size c.args.t c.loop-k.k
    c.args.n c.past_zeros-from.result c.requires.1 c.past_zeros-from.ensures in (
      c.take_run.ensures.0,
      rows_met g.T.Taker.takes _ _ _ _ _ _ _ _ (rw z c.loop-k.invariant.2) refl c.take_run.ensures.1 g.met.T.Taker.more
          g.met.T.Taker.stop _ (omega (arith, c.past_zeros-from.ensures.high, c.block_entries-count.ensures))
          c.if-take_run.true,
    )

pub loop-k-preserved : goal.loop-k-preserved
loop-k-preserved g c = let z = zeros_rows c.args.image.now c.args.least c.args.packed c.args.size c.args.t c.loop-k.k c.args.n
    c.past_zeros-from.result c.requires.1 c.past_zeros-from.ensures in (
      omega (arith, c.past_zeros-from.ensures.high, c.block_entries-count.ensures),
      c.take_run.ensures.0,
      rows_more g.T.Taker.takes _ _ _ _ _ _ _ _ (rw z c.loop-k.invariant.2) refl c.take_run.ensures.1 g.met.T.Taker.more
          c.if-take_run.false,
    )

pub returns : goal.returns
returns g c = (
  c.loop-k.invariant.1,
  rows_all g.T.Taker.takes _ _ _ _ _ c.loop-k.invariant.2 c.loop-k.invariant.0 c.loop-k-test.false,
)
