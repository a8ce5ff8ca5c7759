-- `any_pair`: i pairs are asked.
use Prim.Native.Nat.{ℕ, ◌+◌, ◌*◌}
use mathlib.Core.Path.{◌≡◌}
use mathlib.Core.Bool.{Bool}
use Rattle.blocks.specs.Blocks.{any_from}
use Rattle.blocks.proofs.any_pair.Given as goal

abbrev pub invariant-loop-i : goal.invariant-loop-i
invariant-loop-i g l =
    (broken : ℕ → Bool) → ((j : ℕ) (r : Bool) → goal.F-post g l.pair (l.k + 2 * j) r → r ≡ any_from broken (l.k + 2 * j) 2)
    → l.any ≡ any_from broken l.k (2 * l.i)
