-- `mark_table_grains`: a directory entry that names no table, or the entries of one.
use native.Mathlib.Omega.{arith}
use Rattle.window.specs.TakenRuns.{run_now}
use Rattle.named.proofs.Named.{table_none, table_some}
use Rattle.named.proofs.mark_table_grains.Goals as goal

pub returns-then-t-least : goal.returns-then-t-least
returns-then-t-least c = search table_none

pub returns : goal.returns
returns c = let g = c.take_entries.ensures.1 in
    run_now (table_some _ _ _ _ _ _ _ _ c.entry_at-t.ensures.0 _ _ _ _ c.if-t-least.false g.0) (grind arith)
