-- What mending's parts ask of two tables, answer and leave in image and list.
use Rattle.std.specs.Prelude.{ℕ, ◌+◌, ◌-◌, ◌*◌, ◌≤◌, ◌<◌, min, ◌≡◌, List, length}
use Rattle.base.specs.Bytes.{over}
use Rattle.format.specs.Mend.{good_entry, other_entry, mended, changes, after_mend}
use Rattle.format.specs.declared.Header.{Header}
use Rattle.format.specs.declared.Entry.TheVariants.{Sector}
use Rattle.std.specs.Prelude.{Result}
use Rattle.format.specs.declared.Refusal.{Refusal}

-- n entries of the tables at sectors t and u lie in the image, apart from each other: where those of u begin before the end of
-- those of t, they end before these begin
pub record TwoTables (m : List ℕ) (n t u : ℕ) : Type 0 where
  pub good : 512 * t + 4 * n ≤ length m
  pub other : 512 * u + 4 * n ≤ length m
  pub apart : 512 * u < 512 * t + 4 * n → 512 * u + 4 * n ≤ 512 * t

-- entry d of both directories lies in the image, is in use, where there are so many grains, and names such tables
pub record TwoEntries (m : List ℕ) (g : Header) (all d : ℕ) : Type 0 where
  pub few : all ≤ 0x80000000
  pub first : d * g.entries_per_table < all
  pub good : 512 * g.directory + 4 * d + 4 ≤ length m
  pub other : 512 * g.redundant + 4 * d + 4 ≤ length m
  pub tables : (t u : ℕ) → good_entry m g d ≡ Sector t → other_entry m g d ≡ Sector u
      → TwoTables m (min g.entries_per_table (all - d * g.entries_per_table)) t u

-- the answer is r; the image that held s holds x and the list that held l holds y, g being the header from the good side
pub record MendTold (answer : Result ℕ Refusal) (s : List ℕ) (g : Header) (l : List ℕ) (r : Result ℕ Refusal)
    (x y : List ℕ) : Type 0 where
  pub told : r ≡ answer
  pub image : x ≡ after_mend answer (mended s g) s
  pub list : y ≡ after_mend answer (over l 0 (changes s g)) l
