-- `free_whole`: the library's test of all words.
use Prim.Native.Nat.{◌+◌, ◌-◌}
use mathlib.Core.Path.{◌≡◌}
use native.Mathlib.Omega.{arith}
use lib.Dec.{eqb}
use lib.ListN.{take, drop}
use borrow.Author.Rules.{rules}
use borrow.Author.Tests.{tests}
use Rattle.std.proofs.lemmas.Iterator.{YieldsList-from_slice}
use Rattle.std.proofs.lemmas.Iterator.Search.{all_from_yields_List}
use Rattle.marks.proofs.Wholes.{whole_tested}
use Rattle.marks.proofs.free_whole.Goals as goal

pub returns : goal.returns
returns c = let a = c.args in
    let n = a.stop - a.first in
    let e = all_from_yields_List {s = c.iter.result} (λ x. eqb x 0) c.all.new.self _ c.all.result c.all.ensures.ran
    (YieldsList-from_slice (take n (drop a.first a.words.now)) cc) (λ x b q k. search (rules, tests)) in
    let whole : a.first + n ≡ a.stop = omega arith in
    rw e (rw whole at (whole_tested a.words.now a.first n (λ i. search (rules, c.type_inv.words i)) (omega arith)))
