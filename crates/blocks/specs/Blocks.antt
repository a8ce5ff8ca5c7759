-- Entries judged some at a time, from one on.
use Rattle.std.specs.Prelude.{ℕ, ◌+◌, ◌-◌, ◌≤◌, ◌<◌, ◌≡◌, List, Bool, true, false, not, eqb}
use Rattle.format.specs.Entries.{entry_at, any_below}

-- a rule that is broken by one of the m numbers from k on
unfoldable pub any_from : (ℕ → Bool) → ℕ → ℕ → Bool
any_from broken k m = any_below (λ j. broken (k + j)) m

-- entry j of the tables at sectors t and u differs
abbrev pub differs_at : List ℕ → ℕ → ℕ → ℕ → Bool
differs_at s t u j = not (eqb (entry_at s t j) (entry_at s u j))

-- entry j of the table at sector t is not 0
abbrev pub named_at : List ℕ → ℕ → ℕ → Bool
named_at s t j = not (eqb (entry_at s t j) 0)

-- from entry k up to r, at most n, all are 0
pub record Passed (s : List ℕ) (t k n r : ℕ) : Type 0 where
  pub low : k ≤ r
  pub high : r ≤ n
  pub zeros : (j : ℕ) → k ≤ j → j < r → entry_at s t j ≡ 0

-- from number k up to r, at most n, none breaks a rule, and one of the sixteen from r on does where so many are left
pub record PastBlocks (broken : ℕ → Bool) (k n r : ℕ) : Type 0 where
  pub low : k ≤ r
  pub high : r ≤ n
  pub none : (j : ℕ) → k ≤ j → j < r → broken j ≡ false
  pub stopped : 16 ≤ n - r → any_from broken r 16 ≡ true
