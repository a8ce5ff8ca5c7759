use Prim.Native.Nat.{◌/◌}
use mathlib.Core.Path.{◌≡◌}
use native.Mathlib.Omega.{arith}
use borrow.Author.Rules.{rules}
use Rattle.alike.proofs.Compared.{passed_word}
use Rattle.alike.proofs.past_zero_words.Goals as goal

pub loop-k-preserved : goal.loop-k-preserved
loop-k-preserved c = search (passed_word, rules)

pub returns : goal.returns
returns c = let all : c.loop-k.k ≡ c.args.n / 8 = omega arith in rw all at c.loop-k.invariant
