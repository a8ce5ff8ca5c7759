-- The tail that closes a stream (request A12): its bytes, from the kept grains l and the sector `end` where it starts.
use Rattle.std.specs.Prelude.{ℕ, ◌+◌, ◌*◌, ◌/◌, List, [], ◌∷◌, Bool, false, ◌||◌, eqb}
use Rattle.base.specs.Pick.{pick}
use Rattle.base.specs.Numbers.{le_bytes}
use Rattle.base.specs.Bytes.{zeros}
use Rattle.base.specs.Rows.{rows, all_of, entry_bytes}
use Rattle.base.specs.SumsBelow.{sum_below}
use Rattle.format.specs.Geometry.{bytes_at}
use Rattle.format.specs.Header.{directory_entries_of}
use Rattle.format.specs.Stream.{KeptGrain}
use Rattle.format.specs.declared.Header.{Header}

-- ---- what the kept grains say
-- the entry of grain g: the sector where it stands, 0 where it was not kept
unfoldable pub kept_entry : List KeptGrain → ℕ → ℕ
kept_entry [] g = 0
kept_entry (k ∷ l) g = pick (eqb k.number g) k.sector (kept_entry l g)

-- directory entry d has a grain
unfoldable pub has_grains : List KeptGrain → ℕ → Bool
has_grains [] d = false
has_grains (k ∷ l) d = eqb (k.number / 512) d || has_grains l d

-- ---- where the parts stand: a table for each directory entry with grains, behind its marker; then the directory behind one
abbrev pub one_if_table : List KeptGrain → ℕ → ℕ
one_if_table l d = pick (has_grains l d) 1 0

abbrev pub tables_below : List KeptGrain → ℕ → ℕ
tables_below l d = sum_below (one_if_table l) d

abbrev pub new_table : ℕ → List KeptGrain → ℕ → ℕ
new_table end l d = end + 5 * tables_below l d + 1

abbrev pub new_tables : Header → List KeptGrain → ℕ
new_tables h l = tables_below l (directory_entries_of h)

abbrev pub new_directory : Header → ℕ → List KeptGrain → ℕ
new_directory h end l = end + 5 * new_tables h l + 1

-- markers of table, directory and footer, the directory, the footer and the last sector
abbrev pub tail_sectors : Header → List KeptGrain → ℕ
tail_sectors h l = 5 * new_tables h l + h.directory_sectors + 4

-- ---- bytes
-- a marker's sector: u64 first number, u32 size 0, u32 type, zeros
unfoldable pub marker_bytes : ℕ → ℕ → List ℕ
marker_bytes first type = all_of (le_bytes 8 first ∷ le_bytes 4 0 ∷ le_bytes 4 type ∷ zeros 496 ∷ [])

-- the table of directory entry d: entry k of it is grain 512 x d + k's
abbrev pub new_entry : List KeptGrain → ℕ → ℕ → ℕ
new_entry l d k = kept_entry l (512 * d + k)

unfoldable pub table_parts : List KeptGrain → ℕ → List ℕ
table_parts l d = pick (has_grains l d) (all_of (marker_bytes 4 1 ∷ entry_bytes 512 (new_entry l d) ∷ [])) []

-- 0 for an entry without grains. An unused one has none, since each grain is below capacity
abbrev pub new_directory_entry : ℕ → List KeptGrain → ℕ → ℕ
new_directory_entry end l d = pick (has_grains l d) (new_table end l d) 0

unfoldable pub new_directory_bytes : Header → ℕ → List KeptGrain → List ℕ
new_directory_bytes h end l = entry_bytes (128 * h.directory_sectors) (new_directory_entry end l)

-- sector 0 with the new directory sector
unfoldable pub footer_bytes : List ℕ → ℕ → List ℕ
footer_bytes s directory = all_of (bytes_at s 0 56 ∷ le_bytes 8 directory ∷ bytes_at s 64 448 ∷ [])

abbrev pub tail_parts : List ℕ → Header → ℕ → List KeptGrain → List (List ℕ)
tail_parts s h end l =
    rows (directory_entries_of h) (table_parts l)
    ∷ marker_bytes h.directory_sectors 2
    ∷ new_directory_bytes h end l
    ∷ marker_bytes 0 3
    ∷ footer_bytes s (new_directory h end l)
    ∷ zeros 512
    ∷ []

unfoldable pub tail_bytes : List ℕ → Header → ℕ → List KeptGrain → List ℕ
tail_bytes s h end l = all_of (tail_parts s h end l)
