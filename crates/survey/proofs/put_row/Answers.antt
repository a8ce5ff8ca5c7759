use native.Mathlib.Omega.{arith}
use native.Mathlib.Numerals.{towards_suc}
use lib.ListN.{length-set}
use Rattle.base.proofs.Over.{over_sets}
use Rattle.format.specs.Survey.{row_words}
use Rattle.survey.proofs.put_row.Goals as goal

pub bounds-list-at : goal.bounds-list-at
unfolding row_words
bounds-list-at c = omega arith

pub bounds-list-at-2 : goal.bounds-list-at-2
unfolding row_words
bounds-list-at-2 c = simp length-set (omega arith)

pub bounds-list-at-3 : goal.bounds-list-at-3
unfolding row_words
bounds-list-at-3 c = simp length-set (omega arith)

pub bounds-list-at-4 : goal.bounds-list-at-4
unfolding row_words
bounds-list-at-4 c = simp length-set (omega arith)

pub bounds-list-at-5 : goal.bounds-list-at-5
unfolding row_words
bounds-list-at-5 c = simp length-set (omega arith)

pub bounds-list-at-6 : goal.bounds-list-at-6
unfolding row_words
bounds-list-at-6 c = simp length-set (omega arith)

pub returns : goal.returns
unfolding row_words
returns c = simp towards_suc (over_sets _ _ _ (omega arith))
