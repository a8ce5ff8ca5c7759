-- What the functions that write the tail say of its parts and of what is left of the walk.
use Rattle.std.specs.Prelude.{ℕ, ◌+◌, ◌*◌, ◌≤◌, ◌≡◌, List, [], ◌∷◌, Option}
use Rattle.base.specs.Numbers.{le_bytes}
use Rattle.base.specs.Bytes.{over, zeros}
use Rattle.base.specs.Rows.{rows, all_of, entry_bytes}
use Rattle.format.specs.Geometry.{file_sectors}
use Rattle.format.specs.Stream.{overhead, KeptGrain, kept_grains}
use Rattle.format.specs.Tail.{kept_entry, has_grains, one_if_table, tables_below, marker_bytes, new_entry, table_parts}
use Rattle.format.specs.Tail.{new_directory_entry, footer_bytes}
use Rattle.format.specs.declared.Header.{Header}
use Rattle.walk.specs.Walked.{Walkable, rest_of, Standing}
use Rattle.walk.specs.declared.NextGrain.{NextGrain}
use Rattle.tail.specs.declared.Rows.{Rows}

-- a stream that is walked
pub record Walking (s : List ℕ) (h : Header) : Type 0 where
  pub walkable : Walkable h
  pub some : 1 ≤ file_sectors s
  pub starts : overhead s ≤ file_sectors s

-- what the kept grains say from grain g on is what is left from the next grain on says
pub record Left (s : List ℕ) (h : Header) (g : ℕ) (next : Option NextGrain) : Type 0 where
  pub standing : Standing s h g next
  pub entries : (i : ℕ) → g ≤ i → kept_entry (kept_grains s h) i ≡ kept_entry (rest_of s h next) i
  pub tables : (d : ℕ) → g ≤ 512 * d → has_grains (kept_grains s h) d ≡ has_grains (rest_of s h next) d

-- the entries of n grains from g on, and a table with its marker
abbrev pub entries_from : List KeptGrain → ℕ → ℕ → List ℕ
entries_from l g n = entry_bytes n (λ k. kept_entry l (g + k))

abbrev pub table_of : List KeptGrain → ℕ → List ℕ
table_of l d = all_of (marker_bytes 4 1 ∷ entry_bytes 512 (new_entry l d) ∷ [])

-- ---- a directory entry and its table, if it has one: the tables stand from byte 0 on, the directory from `directory` on
-- what is asked, of an output of `room` bytes
pub record RowReady (s : List ℕ) (h : Header) (directory tables d room : ℕ) (next : Option NextGrain) : Type 0 where
  pub walking : Walking s h
  pub left : Left s h (512 * d) next
  pub below : tables ≡ tables_below (kept_grains s h) d
  pub fits : 2560 * (tables + one_if_table (kept_grains s h) d) ≤ directory
  pub space : directory + 4 * d + 4 ≤ room
  pub few : d ≤ 0x80000000

-- what is then known
pub record RowPut (s : List ℕ) (h : Header) (end directory tables d : ℕ) (r : Rows) (before after : List ℕ) : Type 0 where
  pub left : Left s h (512 * d + 512) r.next
  pub counted : r.tables ≡ tables + one_if_table (kept_grains s h) d
  pub bytes : after ≡ over (over before (2560 * tables) (table_parts (kept_grains s h) d)) (directory + 4 * d)
      (le_bytes 4 (new_directory_entry end (kept_grains s h) d))

-- before with the first n tables and directory entries
abbrev pub with_rows : List KeptGrain → ℕ → ℕ → ℕ → List ℕ → List ℕ
with_rows l end directory n before =
    over (over before 0 (rows n (table_parts l))) directory (entry_bytes n (new_directory_entry end l))

-- what follows the directory
unfoldable pub last_parts : List ℕ → ℕ → List ℕ
last_parts s directory = all_of (marker_bytes 0 3 ∷ footer_bytes s directory ∷ zeros 512 ∷ [])
