-- What an accepted image is, said without the check: one field for each layout rule, no file sector lying in two areas.
use Rattle.std.specs.Prelude.{ℕ, ◌+◌, ◌*◌, ◌/◌, ◌%◌, ◌^◌, ◌≤◌, ◌<◌, ◌≡◌, List, true, length, get_or}
use Rattle.base.specs.Bytes.{zeros}
use Rattle.format.specs.Geometry.{file_sectors, bytes_at, directory_entries}
use Rattle.format.specs.Kdmv.{kdmv_magic, newline_bytes, kdmv_fields, flag_set, flag_value, all_ones, footer_at, last_at}
use Rattle.format.specs.Kdmv.{footer_directory}
use Rattle.format.specs.Cowd.{cowd_magic, cowd_fields}
use Rattle.format.specs.Header.{kdmv_header_of, cowd_header_of, grains_of, directory_entries_of}
use Rattle.format.specs.Entries.{entry_at, meaning_at, grain_entry, entries_in_use, marker_first, marker_size}
use Rattle.format.specs.Areas.{Area, area, areas, Apart}
use Rattle.format.specs.declared.Header.{Header}
use Rattle.format.specs.declared.Entry.{Entry}
use Rattle.format.specs.declared.Entry.TheVariants.{Absent, Zero, Sector}
use Rattle.format.specs.declared.KdmvFields.{KdmvFields}
use Rattle.format.specs.declared.CowdFields.{CowdFields}

-- n is a power of two, from `least` to 2,048
pub record GrainSize (least n : ℕ) : Type 0 where
  pub low : least ≤ n
  pub high : n ≤ 2048
  pub power : (k : ℕ) × (n ≡ 2 ^ k)

pub record Capacity (n : ℕ) : Type 0 where
  pub low : 1 ≤ n
  pub high : n ≤ 0x80000000

-- ---- headers
pub record FooterRules (s : List ℕ) : Type 0 where
  pub multiple : length s % 512 ≡ 0
  pub long : 4 ≤ file_sectors s
  pub front : bytes_at s (footer_at s) 56 ≡ bytes_at s 0 56
  pub back : bytes_at s (footer_at s + 64) 448 ≡ bytes_at s 64 448
  pub last : bytes_at s (last_at s) 512 ≡ zeros 512
  pub directory : footer_directory s ≡ all_ones → ⊥

pub record KdmvRules (s : List ℕ) (k : KdmvFields) : Type 0 where
  pub long : 512 ≤ length s
  pub magic : bytes_at s 0 4 ≡ kdmv_magic
  pub version : (1 ≤ k.version) × (k.version ≤ 3)
  pub newline : flag_set k.flags 0x1 ≡ true → bytes_at s 73 4 ≡ newline_bytes
  pub flags : k.flags ≡ flag_value k.flags 0x1 + flag_value k.flags 0x2 + flag_value k.flags 0x4
      + flag_value k.flags 0x10000 + flag_value k.flags 0x20000
  pub compression : k.compression ≡ k.flags / 0x10000 % 2
  pub markers : flag_set k.flags 0x20000 ≡ true → flag_set k.flags 0x10000 ≡ true
  pub use_redundant : flag_set k.flags 0x2 ≡ true → k.redundant ≡ 0 → ⊥
  pub zeroed_entries : flag_set k.flags 0x4 ≡ true → k.version ≡ 1 → ⊥
  pub capacity : Capacity k.capacity
  pub grain_size : GrainSize 8 k.grain_size
  pub entries : k.entries_per_table ≡ 512
  pub at_end : k.directory ≡ all_ones → (flag_set k.flags 0x20000 ≡ true) × FooterRules s

pub record CowdRules (s : List ℕ) (k : CowdFields) : Type 0 where
  pub long : 2048 ≤ length s
  pub magic : bytes_at s 0 4 ≡ cowd_magic
  pub version : k.version ≡ 1
  pub capacity : Capacity k.capacity
  pub grain_size : GrainSize 1 k.grain_size
  pub stored_count : directory_entries k.capacity 4096 k.grain_size ≤ k.directory_entries

-- ---- areas
-- the entries of the two directories, by meaning: absent and zero in the same places, and tables equal in the n entries in use
pub data SameEntry (s : List ℕ) (n : ℕ) : Entry → Entry → Type 0 where
  absent : SameEntry s n Absent Absent
  zero : SameEntry s n Zero Zero
  tables : {t u : ℕ} → ((k : ℕ) → k < n → entry_at s t k ≡ entry_at s u k) → SameEntry s n (Sector t) (Sector u)

abbrev pub area_at : List Area → ℕ → Area
area_at l i = get_or l i (area 0 0)

pub record AreaRules (s : List ℕ) (h : Header) : Type 0 where
  -- the descriptor's numbers are both zero or both not
  pub descriptor : (h.descriptor ≡ 0 → h.descriptor_sectors ≡ 0) × (h.descriptor_sectors ≡ 0 → h.descriptor ≡ 0)
  pub directory : h.directory ≡ 0 → ⊥
  -- all areas lie in sectors 0 to F-1
  pub inside : (i : ℕ) → i < length (areas s h) → (area_at (areas s h) i).first + (area_at (areas s h) i).sector_count
      ≤ file_sectors s
  -- a packed grain's size is at least 1, and its first number is g x grain size
  pub markers : h.packed ≡ true → (g e : ℕ) → g < grains_of h → grain_entry s h g ≡ Sector e → (1 ≤ marker_size s e)
      × (marker_first s e ≡ g * h.grain_size)
  pub copies : (h.redundant ≡ 0 → ⊥) → (d : ℕ) → d < directory_entries_of h
      → SameEntry s (entries_in_use h d) (meaning_at s h.one_is_zero h.directory d)
      (meaning_at s h.one_is_zero h.redundant d)
  -- no sector lies in two areas
  pub apart : Apart (areas s h)

-- ---- a KDMV image, which is what every call but the moves takes
pub record AcceptedKdmv (s : List ℕ) : Type 0 where
  pub rules : KdmvRules s (kdmv_fields s)
  pub areas : AreaRules s (kdmv_header_of s)

-- ---- an image of either kind, for the moves
pub data Accepted (s : List ℕ) : Type 0 where
  kdmv : KdmvRules s (kdmv_fields s) → AreaRules s (kdmv_header_of s) → Accepted s
  cowd : CowdRules s (cowd_fields s) → AreaRules s (cowd_header_of s) → Accepted s
