use native.Mathlib.Omega.{arith}
use native.Mathlib.Numerals.{towards_suc}
use lib.ListN.{length-set}
use Rattle.base.proofs.Over.{over_sets}
use Rattle.framing.proofs.put_words.Goals as goal

pub bounds-list-at-2 : goal.bounds-list-at-2
bounds-list-at-2 c = simp length-set (omega arith)

pub bounds-list-at-3 : goal.bounds-list-at-3
bounds-list-at-3 c = simp length-set (omega arith)

pub returns : goal.returns
returns c = record { words = simp towards_suc (over_sets _ _ _ (omega arith)); next = omega arith }
