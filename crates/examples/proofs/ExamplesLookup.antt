-- The lookup and the grain reader: each kind of source, and refusals 8, 9, 10 and 20 on both sides of each edge.
use Prim.Native.Nat.{ℕ}
use mathlib.Core.List.{List, [], ◌∷◌, ◌++◌}
use mathlib.Core.Path.{◌≡◌, refl, ap}
use Rattle.base.specs.Pick.{pick}
use Rattle.base.specs.Rounding.{power_up_to}
use Rattle.base.specs.Numbers.{le_at, le_bytes}
use Rattle.base.specs.Strings.{same_at}
use Rattle.base.specs.Bytes.{over, zeros}
use Rattle.format.specs.Geometry.{directory_entries, directory_sectors}
use Rattle.format.specs.Kdmv.{kdmv_fields, kdmv_fault}
use Rattle.format.specs.Header.{kdmv_header, directory_of, unless_fault, with_footer, judge_kdmv, judge_of, judge}
use Rattle.format.specs.Entries.{meaning, grain_sectors, marker_broken}
use Rattle.format.specs.Source.{grain_source, lookup_grain, lookup_entry, lookup_table, lookup_in, lookup_from, sector_lookup}
use Rattle.format.specs.Source.{answer_part, source_bytes}
use Rattle.format.specs.declared.Header.{Header}
use Rattle.format.specs.declared.Source.TheVariants.{Absent, Zero, Stored, Packed}
use Rattle.format.specs.declared.MisplacedPart.TheVariants.{Directory, PrimaryTable}
use Rattle.format.specs.declared.Refusal.TheVariants.{Misplaced, GrainPast, Marker, SectorPast}
use Rattle.format.specs.declared.numbers.Part.{Part}
use Rattle.examples.specs.Examples.{Example, example, Hold}
use Rattle.examples.specs.Images.{small, packed, sized_header, plain_header, stream_header}
use Rattle.examples.proofs.ExamplesCheck.{packed_known}
use Rattle.std.specs.Prelude.{Result, Ok, Err}
use Rattle.format.specs.declared.Source.{Source}
use Rattle.format.specs.declared.Refusal.{Refusal}

-- the lookup in an image whose header is known
looked : (s : List ℕ) (h : Header) (x : ℕ) → judge s ≡ Ok h → sector_lookup s x ≡ lookup_in s h x
unfolding lookup_from
looked s h x e = ap (lookup_from s x) e

-- ---- streams
packed_looked : (first size next next_size x : ℕ) → sector_lookup (packed first size next next_size) x
    ≡ lookup_in (packed first size next next_size) (stream_header 1) x
packed_looked first size next next_size x = looked _ _ x (packed_known first size next next_size)

pub streams_looked :
    (sector_lookup (packed 0 500 8 501) 0 ≡ Ok (Packed 6 500 0))
    × (sector_lookup (packed 0 500 8 501) 7 ≡ Ok (Packed 6 500 7))
    × (sector_lookup (packed 0 500 8 501) 15 ≡ Ok (Packed 7 501 7))
    -- 20: capacity is 16
    × (sector_lookup (packed 0 500 8 501) 16 ≡ Err SectorPast)
    -- 10 of the sector's own grain, the other's marker being right or not
    × (sector_lookup (packed 1 500 8 0) 0 ≡ Err (Marker 0))
    × (sector_lookup (packed 1 500 8 0) 8 ≡ Err (Marker 1))
    -- 9 comes first: grain 1 past F by one byte, and not past it
    × (sector_lookup (packed 0 500 9 2549) 8 ≡ Err (GrainPast 1))
    × (sector_lookup (packed 0 500 9 2548) 8 ≡ Err (Marker 1))
unfolding pick le_at le_bytes over zeros meaning grain_sectors marker_broken grain_source lookup_grain lookup_entry lookup_table lookup_in
streams_looked = (
  packed_looked 0 500 8 501 0,
  packed_looked 0 500 8 501 7,
  packed_looked 0 500 8 501 15,
  packed_looked 0 500 8 501 16,
  packed_looked 1 500 8 0 0,
  packed_looked 1 500 8 0 8,
  packed_looked 0 500 9 2549 8,
  packed_looked 0 500 9 2548 8,
)

-- ---- ten sectors, uncompressed; in a lookup the grains may stand on the table
small_looked : (zeroth first x : ℕ) → sector_lookup (small zeroth first 0 4) x
    ≡ lookup_in (small zeroth first 0 4) (sized_header 16 8) x
unfolding pick power_up_to le_at le_bytes same_at zeros directory_entries directory_sectors kdmv_fields kdmv_fault kdmv_header directory_of unless_fault with_footer judge_kdmv judge_of
small_looked zeroth first x = looked _ (sized_header 16 8) x refl

pub small_lookups :
    -- stored at entry + o; absent; zero
    (sector_lookup (small 2 0 0 4) 7 ≡ Ok (Stored 9))
    × (sector_lookup (small 2 0 0 4) 8 ≡ Ok Absent)
    × (sector_lookup (small 2 1 0 4) 8 ≡ Ok Zero)
    -- 9 by a sector
    × (sector_lookup (small 2 3 0 4) 8 ≡ Err (GrainPast 1))
unfolding pick le_at le_bytes zeros meaning grain_sectors grain_source lookup_grain lookup_entry lookup_table lookup_in
small_lookups = (small_looked 2 0 7, small_looked 2 0 8, small_looked 2 1 8, small_looked 2 3 8)

-- the lookup of sector x by a header whose directory stands at a sector
abbrev at : ℕ → List ℕ → ℕ → Result Source Refusal
at directory s x = lookup_in s (plain_header 0 1 directory 99) x

abbrev lookups : List (Example (Result Source Refusal))
lookups =
    -- a directory entry of 0, and of 1 where it means zeros, says it of all its grains; descriptor and redundant directory are
    -- not judged
    example (at 1 (zeros 1024) 0) (Ok Absent)
    ∷ example (at 1 (zeros 512 ++ le_bytes 4 1 ++ zeros 508) 15) (Ok Zero)
    -- 8: directory sector 0, the directory past F, the table past F by a sector; 20 comes first
    ∷ example (at 0 (zeros 1024) 15) (Err (Misplaced Directory))
    ∷ example (at 2 (zeros 1024) 15) (Err (Misplaced Directory))
    ∷ example (at 0 (zeros 1024) 16) (Err SectorPast)
    ∷ example (at 1 (zeros 512 ++ le_bytes 4 2 ++ zeros 2556) 0) (Ok Absent)
    ∷ example (at 1 (zeros 512 ++ le_bytes 4 3 ++ zeros 2556) 0) (Err (Misplaced PrimaryTable))
    ∷ []

pub lookups_hold : Hold lookups
unfolding pick le_at le_bytes zeros meaning lookup_entry lookup_table lookup_in
lookups_hold = refl

-- ---- the grain reader: 512 bytes, or the payload after the 12 marker bytes, or nothing
abbrev part : ℕ → ℕ → Part
part at length = record { at = at; length = length }

abbrev parts : List (Example Part)
parts =
    example (answer_part (Ok Absent)) (part 0 0)
    ∷ example (answer_part (Ok Zero)) (part 0 0)
    ∷ example (answer_part (Ok (Stored 9))) (part 4608 512)
    ∷ example (answer_part (Ok (Packed 6 500 7))) (part 3084 500)
    ∷ example (answer_part (Err (GrainPast 3))) (part 0 0)
    ∷ []

pub parts_hold : Hold parts
parts_hold = refl

abbrev bytes : List (Example (List ℕ))
bytes =
    example (source_bytes (1 ∷ 2 ∷ []) Zero) []
    ∷ example (source_bytes (zeros 512 ++ 1 ∷ 2 ∷ []) (Stored 1)) (1 ∷ 2 ∷ [])
    ∷ example (source_bytes (zeros 12 ++ 1 ∷ 2 ∷ 3 ∷ []) (Packed 0 2 0)) (1 ∷ 2 ∷ [])
    ∷ []

pub bytes_hold : Hold bytes
unfolding zeros source_bytes
bytes_hold = refl
