-- `same_word`: the library's comparison, byte by byte.
use Prim.Native.Nat.{ℕ}
use mathlib.Core.Path.{◌∙◌}
use native.Mathlib.Omega.{arith}
use lib.Dec.{eqb}
use borrow.Author.Rules.{rules}
use borrow.Author.Tests.{tests, eqb-true, ne_eqb}
use Rattle.std.specs.Char.{to_ascii_lowercase}
use Rattle.std.proofs.lemmas.Iterator.{YieldsList-from_slice, YieldsList-from_zip}
use Rattle.std.proofs.lemmas.Iterator.Search.{all_from_yields_List}
use Rattle.base.proofs.SliceParts.{zipped}
use Rattle.base.proofs.Strings.{word_long}
use Rattle.base.proofs.same_word.Goals as goal

pub returns-then-w-fixed : goal.returns-then-w-fixed
returns-then-w-fixed c = let a = c.args in
    all_from_yields_List {s = c.zip.result}
    (λ (p : ℕ × ℕ). eqb (to_ascii_lowercase p.0) p.1) c.all.new.self _ _ c.all.ensures.ran
    (YieldsList-from_zip (YieldsList-from_slice a.w.now cc) (YieldsList-from_slice a.fixed.now cc))
    (λ x b q k. search (rules, tests))
    ∙ zipped a.w.now a.fixed.now (omega (arith, eqb-true))

pub returns-else-w-fixed : goal.returns-else-w-fixed
returns-else-w-fixed c = let a = c.args in ne_eqb _ _ c.if-w-fixed.false ∙ word_long a.w.now a.fixed.now c.if-w-fixed.false
