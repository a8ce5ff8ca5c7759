use Rattle.window.proofs.RunLaws.{run_before, run_after, run_whole}
use borrow.Author.Rules.{rules}
use Rattle.window.proofs.mark_area.Goals as goal

pub returns-then-first-count : goal.returns-then-first-count
returns-then-first-count c = search run_before

pub returns-then-width-first : goal.returns-then-width-first
returns-then-width-first c = search run_after

pub returns-then-count-width : goal.returns-then-count-width
returns-then-count-width c = search (run_whole, rules)
