-- Changes table by table, as the code goes through them.
use Rattle.std.specs.Prelude.{ℕ, ◌+◌, ◌*◌, ◌≤◌, ◌<◌, ◌≡◌, List, [], ◌∷◌, eqb}
use Rattle.base.specs.Pick.{pick}
use Rattle.base.specs.Rows.{rows}
use Rattle.base.specs.SumsBelow.{sum_below}
use Rattle.format.specs.Header.{directory_entries_of}
use Rattle.format.specs.Entries.{entry_at, entries_in_use}
use Rattle.format.specs.Mend.{good_entry, other_entry, change_of}
use Rattle.format.specs.declared.Header.{Header}
use Rattle.format.specs.declared.Entry.{Entry}
use Rattle.format.specs.declared.Entry.TheVariants.{Absent, Zero, Sector}

-- from entry k up to r, at most n, the tables at sectors t and u are alike
pub record AlikeUpTo (s : List ℕ) (t u k n r : ℕ) : Type 0 where
  pub low : k ≤ r
  pub high : r ≤ n
  pub same : (j : ℕ) → k ≤ j → j < r → entry_at s t j ≡ entry_at s u j

-- ---- counted
-- 1 where two entries differ, else 0
abbrev pub one_if_differs : ℕ → ℕ → ℕ
one_if_differs old new = pick (eqb old new) 0 1

-- how many of the first n entries of the tables at sectors t and u differ
abbrev pub differing : List ℕ → ℕ → ℕ → ℕ → ℕ
differing s t u n = sum_below (λ k. one_if_differs (entry_at s u k) (entry_at s t k)) n

-- of those that two directory entries name
unfoldable pub differing_in : List ℕ → ℕ → Entry → Entry → ℕ
differing_in s n (Sector t) (Sector u) = differing s t u n
differing_in s n (Sector t) Absent = 0
differing_in s n (Sector t) Zero = 0
differing_in s n Absent u = 0
differing_in s n Zero u = 0

-- of those of directory entry d, and of the first n
abbrev pub differing_at : List ℕ → Header → ℕ → ℕ
differing_at s g d = differing_in s (entries_in_use g d) (good_entry s g d) (other_entry s g d)

abbrev pub differing_all : List ℕ → Header → ℕ
differing_all s g = sum_below (differing_at s g) (directory_entries_of g)

-- ---- told
-- one change, if it is one
abbrev pub change_if : ℕ → ℕ → ℕ → List ℕ
change_if grain old new = pick (eqb old new) [] (grain ∷ old ∷ new ∷ [])

-- entry k of the tables at sectors t and u, whose first entry is that of grain `first`
abbrev pub change_in : List ℕ → ℕ → ℕ → ℕ → ℕ → List ℕ
change_in s first t u k = change_if (first + k) (entry_at s u k) (entry_at s t k)

-- the first n entries that two directory entries name
abbrev pub changes_in : List ℕ → ℕ → ℕ → Entry → Entry → List ℕ
changes_in s first n a b = rows n (λ k. change_of s (first + k) k a b)

-- those of directory entry d
abbrev pub changes_at : List ℕ → Header → ℕ → List ℕ
changes_at s g d = changes_in s (d * g.entries_per_table) (entries_in_use g d) (good_entry s g d) (other_entry s g d)
