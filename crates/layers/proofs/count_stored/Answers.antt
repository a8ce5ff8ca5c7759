use Rattle.layout.proofs.StoredGrains.{stored_none}
use Rattle.layers.proofs.StoredCounted.{count_more}
use borrow.Author.Rules.{rules}
use Rattle.layers.proofs.count_stored.Goals as goal

pub loop-g-init : goal.loop-g-init
loop-g-init c = (search rules, stored_none _)

pub loop-g-preserved : goal.loop-g-preserved
loop-g-preserved c = (
  search rules,
  count_more _ _ _ _ c.requires _ _ _ _ c.loop-g.invariant.1 c.source_of.ensures c.stores_of-stored.ensures.0,
)
