use mathlib.Core.Path.{◌≡◌, refl}
use native.Mathlib.Omega.{arith}
use borrow.Author.Rules.{rules}
use Rattle.base.specs.Numbers.{le_at}
use Rattle.base.proofs.Numbers.{byte_added, byte_above, le_below}
use Rattle.base.proofs.number_at.Goals as goal

pub loop-i-init : goal.loop-i-init
unfolding le_at
loop-i-init g c = refl

pub overflow_add-n : goal.overflow_add-n
overflow_add-n g c = let a = c.args in
    let l = c.loop-i in
    record {
      fits = byte_above a.s.now (λ k. search (rules, c.type_inv.s k)) a.at l.i l.n _ l.invariant
          (search rules) (omega arith);
    }

pub loop-i-preserved : goal.loop-i-preserved
loop-i-preserved g c = let a = c.args in
    let l = c.loop-i in
    byte_added a.s.now (λ k. search (rules, c.type_inv.s k)) a.at l.i l.n _ l.invariant c.from.ensures (omega arith)

pub returns : goal.returns
returns g c = let a = c.args in
    let all : c.loop-i.i ≡ g.row.N = omega arith in
    let e = rw all at c.loop-i.invariant in
    (e, rw e (le_below a.s.now (λ k. search (rules, c.type_inv.s k)) a.at g.row.N))
