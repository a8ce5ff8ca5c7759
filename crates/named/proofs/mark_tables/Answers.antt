-- `mark_tables`: entries of a directory, whose tables take the same sectors each.
use native.Mathlib.Omega.{arith}
use borrow.Author.Rules.{rules}
use Rattle.window.specs.TakenRuns.{run_now}
use Rattle.named.proofs.Named.{some_least, listed_as, run_tables}
use Rattle.named.proofs.mark_tables.Goals as goal

pub take_entries-requires : goal.take_entries-requires
take_entries-requires c = (search rules, search some_least, search listed_as)

pub returns : goal.returns
returns c = let g = c.take_entries.ensures.1 in
    run_now (run_tables _ _ _ c.least_sector-least.ensures _ _ _ _ _ _ _ g.0) (grind arith)
