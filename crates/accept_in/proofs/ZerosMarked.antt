-- Blocks of zeros that the walk over entries passes over change nothing of what is marked.
use Prim.Native.Nat.{ℕ, ◌≤◌}
use mathlib.Core.List.{List}
use mathlib.Core.Bool.{Bool}
use Rattle.base.specs.Rows.{rows}
use Rattle.blocks.specs.Blocks.{Passed}
use Rattle.named.specs.Named.{entry_area}
use Rattle.named.proofs.Named.{zeros_rows}
use Rattle.named.proofs.Marked.{Marked}

pub zeros_marked : (lo : ℕ) (ws₀ ws s : List ℕ) (least : ℕ) (packed : Bool) (size t j n k : ℕ) → 1 ≤ least
    → Marked lo ws₀ (rows j (entry_area s least packed size t)) ws → Passed s t j n k
    → Marked lo ws₀ (rows k (entry_area s least packed size t)) ws
zeros_marked lo ws₀ ws s least packed size t j n k one m p = rw (zeros_rows s least packed size t j n k one p) m
