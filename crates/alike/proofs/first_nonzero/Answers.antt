use native.Mathlib.Omega.{arith}
use Rattle.alike.proofs.Compared.{found_byte, ended_zeros}
use Rattle.alike.proofs.first_nonzero.Goals as goal

pub returns-then-s-at-ne0 : goal.returns-then-s-at-ne0
returns-then-s-at-ne0 c = found_byte _ _ _ _ c.loop-i.invariant (omega arith) c.if-s-at-ne0.true

pub returns : goal.returns
returns c = let a = c.args in ended_zeros a.s.now a.at a.n (λ k l. c.loop-i.invariant k (omega arith))
