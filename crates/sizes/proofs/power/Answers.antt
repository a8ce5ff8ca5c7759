-- `power`: one binary digit is set.
use mathlib.Core.Path.{sym, ◌∙◌}
use borrow.Author.Tests.{eqb-true, eqb-false}
use Rattle.sizes.proofs.PowersOfTwo.{power_few, power_none}
use Rattle.sizes.proofs.power.Goals as goal

pub returns-then-is_power_of_two : goal.returns-then-is_power_of_two
returns-then-is_power_of_two c = power_few c.args.n c.ranges.n.fits
    (eqb-true _ _ (sym c.is_power_of_two.ensures ∙ c.if-is_power_of_two.true))

pub returns-else-is_power_of_two : goal.returns-else-is_power_of_two
returns-else-is_power_of_two c =
    c.if-is_power_of_two.false
    ∙ power_none c.args.n (eqb-false _ _ (sym c.is_power_of_two.ensures ∙ c.if-is_power_of_two.false))
