-- `mark_two`: both words are tested before one is written.
use Prim.Native.Nat.{ℕ}
use Rattle.marks.proofs.Wholes.{two_first, two_second, two_marked}
use borrow.Author.Rules.{rules}
use Rattle.marks.proofs.mark_two.Goals.{then-words-j-ne0-via-then-words-j-ne0}
use Rattle.marks.proofs.mark_two.Goals.{then-words-j-ne0-via-else-words-j-ne0+then-words-j-ne0-2}
use Rattle.marks.proofs.mark_two.Goals as goal

pub returns-then-words-j-ne0 : goal.returns-then-words-j-ne0
returns-then-words-j-ne0 c = let a = c.args in
    let fit = λ (i : ℕ). c.type_inv.words i in
    elim c.then-words-j-ne0.branch [
      | then-words-j-ne0-via-then-words-j-ne0 w ↦ two_first a.words.now a.j fit w.if-words-j-ne0.true
      | then-words-j-ne0-via-else-words-j-ne0+then-words-j-ne0-2 w ↦ two_second a.words.now a.j fit w.if-words-j-ne0-2.true
    ]

pub returns : goal.returns
returns c = search (two_marked, rules)
