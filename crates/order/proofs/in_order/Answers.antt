-- `in_order`: a stretch that falls, or the frame around one that does not.
use Rattle.order.proofs.Ordered.{around_in, order_fell, order_judged}
use borrow.Author.Rules.{rules}
use Rattle.order.proofs.in_order.Goals as goal

pub returns-then-stretch : goal.returns-then-stretch
returns-then-stretch c = search order_fell

pub windows_meet-requires : goal.windows_meet-requires
windows_meet-requires c = (search rules, search around_in)

pub returns : goal.returns
returns c = search order_judged
