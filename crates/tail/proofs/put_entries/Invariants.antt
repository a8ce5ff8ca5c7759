use Prim.Native.Nat.{◌+◌}
use mathlib.Core.Path.{◌≡◌}
use Rattle.base.specs.Bytes.{over}
use Rattle.format.specs.Stream.{kept_grains}
use Rattle.tail.specs.TailPut.{Left, entries_from}
use Rattle.tail.proofs.put_entries.Given as goal

abbrev pub invariant-loop-k : goal.invariant-loop-k
invariant-loop-k l =
    (l.out ≡ over l.initial.out l.at (entries_from (kept_grains l.image l.h) l.g l.k)) × Left l.image l.h (l.g + l.k) l.next
