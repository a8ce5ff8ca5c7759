-- What the way asks and answers, each premise as the code gives it.
use Prim.Native.Nat.{ℕ}
use mathlib.Core.Path.{◌≡◌}
use mathlib.Core.List.{List}
use Rattle.format.specs.Way.{way_table, way_from}
use Rattle.format.specs.declared.Header.{Header}
use Rattle.format.specs.declared.Entry.{Entry}
use Rattle.format.specs.declared.steps.Way.{Way}
use Rattle.std.specs.Prelude.{Result}
use Rattle.format.specs.declared.Refusal.{Refusal}

-- ---- at an arm of a match
pub table_as : (s : List ℕ) (h : Header) (g : ℕ) (z : Way) (r v : Entry) → r ≡ v → z ≡ way_table s h g v → z ≡ way_table s h g r
table_as s h g z r v e t = rw e t

pub judged_as : (s : List ℕ) (x : ℕ) (z : Way) (a r v : Result Header Refusal) → r ≡ a → r ≡ v → z ≡ way_from s x v → z
    ≡ way_from s x a
judged_as s x z a r v e q t = rw (← e, q) t
