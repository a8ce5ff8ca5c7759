-- `past_blocks`: in the first b blocks none breaks a rule that the closure tells of.
use Prim.Native.Nat.{ℕ, ◌+◌, ◌*◌, ◌≤◌, ◌<◌}
use mathlib.Core.Path.{◌≡◌}
use mathlib.Core.Bool.{Bool, false}
use Rattle.blocks.specs.Blocks.{any_from}
use Rattle.blocks.proofs.past_blocks.Given as goal

abbrev pub invariant-loop-b : goal.invariant-loop-b
invariant-loop-b g l =
    (broken : ℕ → Bool) → ((k : ℕ) (r : Bool) → goal.F-post g l.block k r → r ≡ any_from broken k 16)
    → (j : ℕ) → l.from ≤ j → j < l.from + 16 * l.b → broken j ≡ false
