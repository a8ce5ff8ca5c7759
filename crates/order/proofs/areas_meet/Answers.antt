-- `areas_meet`: the order tells that no two meet, or the windows tell it.
use Rattle.overlap.specs.InFile.{walked}
use Rattle.order.proofs.Ordered.{order_apart}
use borrow.Author.Rules.{rules}
use Rattle.order.proofs.areas_meet.Goals as goal

pub returns-then-in_order : goal.returns-then-in_order
unfolding walked
returns-then-in_order c = search order_apart

pub windows_meet-requires : goal.windows_meet-requires
unfolding walked
windows_meet-requires c = search rules

pub returns : goal.returns
unfolding walked
returns c = search rules
