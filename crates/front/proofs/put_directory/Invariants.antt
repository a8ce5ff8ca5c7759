use Prim.Native.Nat.{◌+◌, ◌*◌}
use mathlib.Core.Path.{◌≡◌}
use Rattle.base.specs.Bytes.{over}
use Rattle.base.specs.Rows.{entry_bytes}
use Rattle.front.proofs.put_directory.Given as goal

abbrev pub invariant-loop-d : goal.invariant-loop-d
invariant-loop-d l = l.out ≡ over l.initial.out l.from (entry_bytes l.d (λ k. l.first + l.step * k))
