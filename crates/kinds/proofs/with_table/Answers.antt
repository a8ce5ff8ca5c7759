use mathlib.Core.Path.{refl}
use Rattle.kinds.specs.Counting.{with_entries}
use Rattle.kinds.proofs.Counted.{entry_room, entry_counted}
use Rattle.kinds.proofs.with_table.Goals as goal

pub loop-k-init : goal.loop-k-init
unfolding with_entries
loop-k-init c = refl

pub with_many-counted-requires : goal.with_many-counted-requires
unfolding with_entries
with_many-counted-requires c = search entry_room

pub loop-k-preserved : goal.loop-k-preserved
unfolding with_entries
loop-k-preserved c = search entry_counted
