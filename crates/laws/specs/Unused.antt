-- What two images agree in that have the same answers: all that is read of them on the way to one.
use Rattle.std.specs.Prelude.{ℕ, ◌+◌, ◌≤◌, ◌<◌, ◌≡◌, List, true, length}
use Rattle.format.specs.Geometry.{file_sectors}
use Rattle.format.specs.Header.{header_of, grains_of, directory_entries_of, judge}
use Rattle.format.specs.Entries.{entry_at, meaning_at, grain_entry, entries_in_use, marker_first, marker_size}
use Rattle.format.specs.declared.Header.{Header}
use Rattle.format.specs.declared.Entry.TheVariants.{Sector}
use Rattle.std.specs.Prelude.{Ok}

-- the first n entries of a directory or table
abbrev pub SameEntries : List ℕ → List ℕ → ℕ → ℕ → Type 0
SameEntries s t u n = (k : ℕ) → k < n → entry_at s u k ≡ entry_at t u k

-- a directory's entries in use, and those of its tables, where they lie in the file
pub record SameTables (s t : List ℕ) (h : Header) (directory : ℕ) : Type 0 where
  pub entries : directory + h.directory_sectors ≤ file_sectors s → SameEntries s t directory (directory_entries_of h)
  pub tables : (d u : ℕ) → d < directory_entries_of h → meaning_at s h.one_is_zero directory d ≡ Sector u
      → u + h.table_sectors ≤ file_sectors s → SameEntries s t u (entries_in_use h d)

-- all that is read of an image of a header: both directories, if there are two, and the markers of packed grains
pub record SameInUse (s t : List ℕ) (h : Header) : Type 0 where
  pub long : length s ≡ length t
  pub primary : SameTables s t h h.directory
  pub copies : (h.redundant ≡ 0 → ⊥) → SameTables s t h h.redundant
  pub markers : h.packed ≡ true → (g e : ℕ) → g < grains_of h → grain_entry s h g ≡ Sector e → e < file_sectors s
      → (marker_size s e ≡ marker_size t e) × (marker_first s e ≡ marker_first t e)

-- all that decides an answer: the header, and what is read of an image of that header. The sizes of `header_of` too, since a
-- chain compares layers by them
pub record SameUsed (s t : List ℕ) : Type 0 where
  pub judged : judge s ≡ judge t
  pub capacity : (header_of s).capacity ≡ (header_of t).capacity
  pub grain_size : (header_of s).grain_size ≡ (header_of t).grain_size
  pub used : (h : Header) → judge s ≡ Ok h → SameInUse s t h
