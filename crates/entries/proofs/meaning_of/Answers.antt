use mathlib.Core.Bool.{and-false}
use native.Mathlib.Omega.{arith}
use borrow.Author.Tests.{ne_eqb}
use Rattle.base.specs.Pick.{pick}
use Rattle.format.specs.Entries.{meaning}
use Rattle.entries.proofs.meaning_of.Goals as goal

pub returns-in-0 : goal.returns-in-0
unfolding meaning pick
returns-in-0 c = rw c.in-0.is

pub returns-in-1 : goal.returns-in-1
unfolding meaning pick
returns-in-1 c = rw (c.in-1.is, c.if-one_is_zero.true)

pub returns-in_default : goal.returns-in_default
unfolding meaning pick
returns-in_default c = rw (c.in-1.is, c.if-one_is_zero.false)

pub returns-in_default-2 : goal.returns-in_default-2
unfolding meaning pick
returns-in_default-2 c = rw (ne_eqb c.args.e 0 (λ q. omega arith), ne_eqb c.args.e 1 (λ q. omega arith), and-false)
