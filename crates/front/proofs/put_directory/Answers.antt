use mathlib.Core.Path.{refl}
use native.Mathlib.Omega.{arith}
use Rattle.layout.proofs.EntryRuns.{rows_none, entries_more}
use Rattle.front.proofs.put_directory.Goals as goal

pub loop-d-init : goal.loop-d-init
loop-d-init c = rows_none _ _ _

pub loop-d-preserved : goal.loop-d-preserved
loop-d-preserved c = entries_more _ _ _ _ _ _ _ c.put_number.ensures refl c.loop-d.invariant (omega arith)
