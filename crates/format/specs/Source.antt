-- Serving sectors: the source of a virtual sector, the lookup and the grain reader.
use Rattle.std.specs.Prelude.{ℕ, ◌+◌, ◌*◌, ◌/◌, ◌%◌, List, Bool, ◌&&◌, leb}
use Rattle.base.specs.Pick.{pick}
use Rattle.format.specs.Geometry.{file_sectors, bytes_at}
use Rattle.format.specs.Header.{judge}
use Rattle.format.specs.Entries.{meaning_at, grain_entry, marker_size, marker_broken, grain_sectors}
use Rattle.format.specs.Areas.{area, ends_past}
use Rattle.format.specs.Check.{directory_misplaced}
use Rattle.format.specs.declared.Header.{Header}
use Rattle.format.specs.declared.Entry.{Entry}
use Rattle.format.specs.declared.Entry.TheVariants.{Absent as no_entry, Zero as zero_entry, Sector}
use Rattle.format.specs.declared.Source.{Source}
use Rattle.format.specs.declared.Source.TheVariants.{Absent, Zero, Stored, Packed}
use Rattle.format.specs.declared.MisplacedPart.TheVariants.{Directory, PrimaryTable}
use Rattle.format.specs.declared.Refusal.TheVariants.{Misplaced, GrainPast, Marker, SectorPast}
use Rattle.format.specs.declared.numbers.Part.{Part}
use Rattle.std.specs.Prelude.{Result, Ok, Err}
use Rattle.format.specs.declared.Refusal.{Refusal}

-- ---- the one source that the layout gives: sector x of grain g, with o = x mod grain size
-- stored at file sector entry + o; or packed, with marker sector, size and o
unfoldable pub grain_source : List ℕ → Bool → ℕ → ℕ → Source
grain_source s packed o e = pick packed (Packed e (marker_size s e) o) (Stored (e + o))

unfoldable pub entry_source : List ℕ → Bool → ℕ → Entry → Source
entry_source s packed o no_entry = Absent
entry_source s packed o zero_entry = Zero
entry_source s packed o (Sector e) = grain_source s packed o e

abbrev pub source_of : List ℕ → Header → ℕ → Source
source_of s h x = entry_source s h.packed (x % h.grain_size) (grain_entry s h (x / h.grain_size))

-- ---- the lookup: 1 to 7 and 43, 20, then of 8 to 10 only directory sector 0 and the whole directory, and the table and the
-- grain that x leads to
unfoldable pub lookup_grain : List ℕ → Header → ℕ → ℕ → ℕ → Result Source Refusal
lookup_grain s h g o e =
    pick (ends_past (file_sectors s) (area e (grain_sectors s h.packed h.grain_size e))) (Err (GrainPast g))
    (pick (h.packed && marker_broken s h.grain_size g e) (Err (Marker g)) (Ok (grain_source s h.packed o e)))

unfoldable pub lookup_entry : List ℕ → Header → ℕ → ℕ → Entry → Result Source Refusal
lookup_entry s h g o no_entry = Ok Absent
lookup_entry s h g o zero_entry = Ok Zero
lookup_entry s h g o (Sector e) = lookup_grain s h g o e

unfoldable pub lookup_table : List ℕ → Header → ℕ → ℕ → Entry → Result Source Refusal
lookup_table s h g o no_entry = Ok Absent
lookup_table s h g o zero_entry = Ok Zero
lookup_table s h g o (Sector t) =
    pick (ends_past (file_sectors s) (area t h.table_sectors)) (Err (Misplaced PrimaryTable))
    (lookup_entry s h g o (meaning_at s h.one_is_zero t (g % h.entries_per_table)))

unfoldable pub lookup_in : List ℕ → Header → ℕ → Result Source Refusal
lookup_in s h x =
    let g = x / h.grain_size in
    pick (leb h.capacity x) (Err SectorPast)
    (pick (directory_misplaced (file_sectors s) h) (Err (Misplaced Directory))
    (lookup_table s h g (x % h.grain_size) (meaning_at s h.one_is_zero h.directory (g / h.entries_per_table))))

unfoldable pub lookup_from : List ℕ → ℕ → Result Header Refusal → Result Source Refusal
lookup_from s x (Err r) = Err r
lookup_from s x (Ok h) = lookup_in s h x

abbrev pub sector_lookup : List ℕ → ℕ → Result Source Refusal
sector_lookup s x = lookup_from s x (judge s)

-- ---- the grain reader: 512 bytes for stored, the payload after the 12 marker bytes for packed, else nothing
-- where the bytes stand in the image, and how many there are; 0 and 0 where there are none
abbrev pub source_part : Source → Part
source_part Absent = record { at = 0; length = 0 }
source_part Zero = record { at = 0; length = 0 }
source_part (Stored sector) = record { at = 512 * sector; length = 512 }
source_part (Packed marker size o) = record { at = 512 * marker + 12; length = size }

abbrev pub answer_part : Result Source Refusal → Part
answer_part (Ok source) = source_part source
answer_part (Err r) = record { at = 0; length = 0 }

-- the bytes themselves
abbrev pub part_bytes : List ℕ → Part → List ℕ
part_bytes s p = bytes_at s p.at p.length

unfoldable pub source_bytes : List ℕ → Source → List ℕ
source_bytes s source = part_bytes s (source_part source)

unfoldable pub answer_bytes : List ℕ → Result Source Refusal → List ℕ
answer_bytes s a = part_bytes s (answer_part a)

abbrev pub read : List ℕ → ℕ → List ℕ
read s x = answer_bytes s (sector_lookup s x)
