use Prim.Native.Nat.{◌+◌}
use mathlib.Core.Path.{◌≡◌, refl}
use native.Mathlib.Omega.{arith}
use native.Mathlib.Nat.{add-zero, add_assoc}
use Rattle.layout.proofs.EntryRuns.{rows_none, entries_more}
use Rattle.format.specs.Stream.{kept_grains}
use Rattle.format.specs.Tail.{kept_entry}
use Rattle.tail.proofs.put_entries.Goals as goal

pub loop-k-init : goal.loop-k-init
loop-k-init c = (rows_none _ _ _, rw add-zero c.requires.3)

pub loop-k-preserved : goal.loop-k-preserved
loop-k-preserved c = let l = c.loop-k in
    let p = c.put_entry-next.ensures in
    let a = c.args in (
      entries_more _ _ _ _ _ _ _ p.0
          (refl {a = kept_entry (kept_grains a.image.now a.h) (a.g + l.k)}) l.invariant.0 (omega arith),
      rw (← add_assoc) p.1,
    )

pub returns : goal.returns
returns c = let l = c.loop-k in
    let q : l.k ≡ 512 = omega arith in
    (rw q at l.invariant.0, rw q at l.invariant.1)
