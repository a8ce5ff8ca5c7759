use Rattle.std.proofs.Common.{rules, sym, arith}
use Rattle.words.proofs.Numerals.{digits_none, digits_bad, digits_more, digits_all, grown, sum_fits, times_fits}
use Rattle.words.proofs.numeral_from.Goals as goal

pub returns-in_err-d : goal.returns-in_err-d
returns-in_err-d c = rw c.from_residual.ensures (search (digits_none, rules))

pub returns-then-base-d : goal.returns-then-base-d
returns-then-base-d c = digits_bad _ _ _ _ c.loop-x.invariant.1 (omega arith) c.in_ok-d.d (sym c.in_ok-d.ensures) (omega arith)

pub overflow_mul-n : goal.overflow_mul-n
overflow_mul-n c = search (times_fits, rules)

pub overflow_add-n : goal.overflow_add-n
overflow_add-n c = search (sum_fits, rules)

pub loop-x-preserved : goal.loop-x-preserved
loop-x-preserved c =
    let e = sym c.in_ok-d.ensures in
    (search (grown, rules), digits_more _ _ _ _ c.loop-x.invariant.1 (omega arith) c.in_ok-d.d e (omega arith))

pub returns : goal.returns
returns c = search (digits_all, rules)
