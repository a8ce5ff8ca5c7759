-- How far a lookup comes, and what it answers there: what is promised of the steps (issue 29). Of image s and sector x.
use Rattle.std.specs.Prelude.{ℕ, ◌+◌, ◌*◌, ◌/◌, ◌%◌, ◌≤◌, ◌<◌, ◌≡◌, List, Bool, true, false, ◌&&◌}
use Rattle.base.specs.Numbers.{le_at}
use Rattle.format.specs.Geometry.{file_sectors}
use Rattle.format.specs.Header.{judge}
use Rattle.format.specs.Entries.{meaning, grain_sectors, marker_broken}
use Rattle.format.specs.Areas.{area, ends_past}
use Rattle.format.specs.Check.{directory_misplaced}
use Rattle.format.specs.Source.{entry_source}
use Rattle.format.specs.Way.{no_way, to_grain, to_directory, to_table}
use Rattle.format.specs.declared.Header.{Header}
use Rattle.format.specs.declared.Entry.{Entry}
use Rattle.format.specs.declared.Entry.TheVariants.{Sector}
use Rattle.format.specs.declared.Refusal.{Refusal}
use Rattle.format.specs.declared.Refusal.TheVariants.{SectorPast, Misplaced, GrainPast, Marker}
use Rattle.format.specs.declared.MisplacedPart.TheVariants.{Directory, PrimaryTable}
use Rattle.format.specs.declared.steps.Way.{Way}
use Rattle.std.specs.Prelude.{Result, Ok, Err}
use Rattle.format.specs.declared.Source.{Source}

-- the grain of sector x, what the directory's entry for it means, and what the entry of the table at sector t means
abbrev pub grain_at : Header → ℕ → ℕ
grain_at h x = x / h.grain_size

abbrev pub in_directory : List ℕ → Header → ℕ → Entry
in_directory s h x = meaning h.one_is_zero (to_directory s h (grain_at h x)).directory_entry

abbrev pub in_table_at : List ℕ → Header → ℕ → ℕ → Entry
in_table_at s h x t = meaning h.one_is_zero (to_table s h (grain_at h x) t).table_entry

-- what an entry gives sector x, by the entry table and, of a packed grain, its marker
abbrev pub served_by : List ℕ → Header → ℕ → Entry → Result Source Refusal
served_by s h x e = Ok (entry_source s h.packed (x % h.grain_size) e)

-- 8 of a table at sector t, 9 and 10 of a grain at sector e
abbrev pub table_past : List ℕ → Header → ℕ → Bool
table_past s h t = ends_past (file_sectors s) (area t h.table_sectors)

abbrev pub own_past : List ℕ → Header → ℕ → Bool
own_past s h e = ends_past (file_sectors s) (area e (grain_sectors s h.packed h.grain_size e))

abbrev pub own_broken : List ℕ → Header → ℕ → ℕ → Bool
own_broken s h x e = h.packed && marker_broken s h.grain_size (grain_at h x) e

-- x is a sector of the disk; the directory lies in the file; its entry names the table at sector t, which lies there too
pub record OfDisk (s : List ℕ) (h : Header) (x : ℕ) : Type 0 where
  pub known : judge s ≡ Ok h
  pub below : x < h.capacity

pub record ToDirectory (s : List ℕ) (h : Header) (x : ℕ) : Type 0 where
  pub disk : OfDisk s h x
  pub placed : directory_misplaced (file_sectors s) h ≡ false

pub record ToTable (s : List ℕ) (h : Header) (x t : ℕ) : Type 0 where
  pub before : ToDirectory s h x
  pub named : in_directory s h x ≡ Sector t
  pub placed : table_past s h t ≡ false

pub data Reached (s : List ℕ) (x : ℕ) : Result Source Refusal → Way → Type 0 where
  -- 1 to 7 and 43, and 20: nothing is told
  header : {r : Refusal} → judge s ≡ Err r → Reached s x (Err r) no_way
  past : {h : Header} → judge s ≡ Ok h → h.capacity ≤ x → Reached s x (Err SectorPast) no_way
  -- 8 with place 2: what 1 means, and the grain
  directory : {h : Header} → OfDisk s h x → directory_misplaced (file_sectors s) h ≡ true
      → Reached s x (Err (Misplaced Directory)) (to_grain h (grain_at h x))
  -- the directory's entry names no table: the source is by it
  no_table : {h : Header} → ToDirectory s h x → ((t : ℕ) → in_directory s h x ≡ Sector t → ⊥)
      → Reached s x (served_by s h x (in_directory s h x)) (to_directory s h (grain_at h x))
  -- 8 with place 4: its table runs past F
  table : {h : Header} {t : ℕ} → ToDirectory s h x → in_directory s h x ≡ Sector t → table_past s h t ≡ true
      → Reached s x (Err (Misplaced PrimaryTable)) (to_directory s h (grain_at h x))
  -- 9, 10, and a source by the table's entry
  grain_past : {h : Header} {t e : ℕ} → ToTable s h x t → in_table_at s h x t ≡ Sector e → own_past s h e ≡ true
      → Reached s x (Err (GrainPast (grain_at h x))) (to_table s h (grain_at h x) t)
  marker : {h : Header} {t e : ℕ} → ToTable s h x t → in_table_at s h x t ≡ Sector e → own_past s h e ≡ false
      → own_broken s h x e ≡ true → Reached s x (Err (Marker (grain_at h x))) (to_table s h (grain_at h x) t)
  found : {h : Header} {t : ℕ} → ToTable s h x t
      → ((e : ℕ) → in_table_at s h x t ≡ Sector e → (own_past s h e ≡ false) × (own_broken s h x e ≡ false))
      → Reached s x (served_by s h x (in_table_at s h x t)) (to_table s h (grain_at h x) t)

-- an offset and its entry: not reached, or an entry behind the header and in the file, with the number that stands there
pub data Stands (s : List ℕ) : ℕ → ℕ → Type 0 where
  unreached : Stands s 0 0
  reached : {at : ℕ} → 512 ≤ at → at + 4 ≤ 512 * file_sectors s → Stands s at (le_at s at 4)
