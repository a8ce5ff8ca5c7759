-- Moves: refusals 23, 27, 44 and 21 in their order, and the COWD normal form part by part.
use Prim.Native.Nat.{ℕ, zero, suc}
use mathlib.Core.List.{List, [], ◌∷◌, ◌++◌}
use mathlib.Core.Path.{refl}
use Rattle.base.specs.Pick.{pick}
use Rattle.base.specs.Numbers.{le_at, le_bytes}
use Rattle.base.specs.Strings.{same_at}
use Rattle.base.specs.Bytes.{zeros}
use Rattle.base.specs.Rows.{rows}
use Rattle.format.specs.Geometry.{grains, directory_entries, directory_sectors}
use Rattle.format.specs.Header.{cowd_header, judge_of}
use Rattle.format.specs.Entries.{meaning, in_table, entry_of_grain, any_below}
use Rattle.format.specs.Check.{check_from}
use Rattle.format.specs.Grains.{Map, absent, stored, bytes_of, one_if_stored, stored_below, entry_for}
use Rattle.format.specs.Layout.{table_count, tables_at, tables_end, sector_v, sector_of, sectors_laid, header_bytes}
use Rattle.format.specs.Layout.{directory_bytes}
use Rattle.format.specs.Layout.{table_bytes, gap_bytes, grain_bytes}
use Rattle.format.specs.Collapse.{if_accepted, written_if_room}
use Rattle.format.specs.Answers.{number, place}
use Rattle.format.specs.Moves.{says_zero, move_from, to_kdmv, to_cowd}
use Rattle.format.specs.declared.Kind.TheVariants.{Kdmv, Cowd}
use Rattle.format.specs.declared.Header.{Header}
use Rattle.format.specs.declared.Refusal.TheVariants.{TooShort, Magic, TooLittleRoom, NotCollapsible, StillOpen, NotMovable}
use Rattle.examples.specs.Examples.{Example, example, Hold}
use Rattle.examples.specs.Images.{joined, small, sized_header, open_header, stream_header}
use Rattle.std.specs.Prelude.{Result, Ok, Err}
use Rattle.format.specs.declared.Refusal.{Refusal}

-- grain 1 is stored, all others absent
abbrev one : Map
one zero = absent
one (suc zero) = stored (7 ∷ 9 ∷ [])
one (suc (suc g)) = absent

-- a COWD header of a grain size and a dirty number
abbrev cowd : ℕ → ℕ → Header
cowd size n =
    cowd_header (record { version = 1; capacity = 16; grain_size = size; directory = 4; directory_entries = 1; dirty = n })

-- ---- answers
abbrev answers : List (Example (Result ℕ Refusal))
answers =
    -- the image's check comes first
    example (to_kdmv [] 0) (Err TooShort)
    ∷ example (to_cowd (zeros 4) 0) (Err Magic)
    -- 23: the kind itself, or compressed; it comes before 27
    ∷ example (move_from Kdmv [] (sized_header 16 8) one 99999) (Err NotCollapsible)
    ∷ example (move_from Kdmv [] (open_header 16 8 1) one 99999) (Err NotCollapsible)
    ∷ example (move_from Cowd [] (cowd 8 1) one 99999) (Err NotCollapsible)
    ∷ example (move_from Cowd [] (stream_header 1) one 99999) (Err NotCollapsible)
    -- 27: any number but 0; it comes before 44
    ∷ example (move_from Kdmv [] (cowd 8 1) one 99999) (Err StillOpen)
    ∷ example (move_from Kdmv [] (cowd 4 2) one 0) (Err StillOpen)
    ∷ example (move_from Cowd (small 1 0 0 0) (open_header 16 8 255) one 99999) (Err StillOpen)
    -- 44: a grain size under 8; any zero grain on the way to COWD, the last one too; it comes before 21
    ∷ example (move_from Kdmv [] (cowd 4 0) one 0) (Err NotMovable)
    ∷ example (move_from Kdmv [] (cowd 1 0) one 99999) (Err NotMovable)
    ∷ example (move_from Cowd (small 1 0 0 0) (sized_header 16 8) one 0) (Err NotMovable)
    ∷ example (move_from Cowd (small 0 1 0 0) (sized_header 16 8) one 99999) (Err NotMovable)
    -- an unused entry of 1 is no zero grain
    ∷ example (move_from Cowd (small 0 6 1 8) (sized_header 16 8) one 99999) (Ok 23040)
    -- 21: as KDMV V is 8, as COWD 37, and one grain is stored
    ∷ example (move_from Kdmv [] (cowd 8 0) one 8191) (Err TooLittleRoom)
    ∷ example (move_from Kdmv [] (cowd 8 0) one 8192) (Ok 8192)
    ∷ example (move_from Cowd (small 0 6 0 8) (sized_header 16 8) one 23039) (Err TooLittleRoom)
    ∷ example (move_from Cowd (small 0 6 0 8) (sized_header 16 8) one 23040) (Ok 23040)
    ∷ []

pub moves_answered : Hold answers
unfolding pick le_at le_bytes zeros same_at grains directory_entries directory_sectors cowd_header judge_of meaning in_table entry_of_grain any_below check_from one_if_stored stored_below table_count tables_at tables_end sector_v sectors_laid if_accepted written_if_room says_zero move_from
moves_answered = refl

-- ---- numbers of the COWD normal form, and 44's
abbrev numbers : List (Example ℕ)
numbers =
    -- 4,096 grains of 8 sectors have one table, 4,097 have two
    example (table_count Cowd 32768 8) 1
    ∷ example (table_count Cowd 32769 8) 2
    -- the directory at 4, the tables from 4 + 1 on, up to 4 + 1 + 2 x 32; no rounding
    ∷ example (tables_at Cowd 32769 8) 5
    ∷ example (tables_end Cowd 32769 8) 69
    ∷ example (sector_v Cowd 32769 8) 69
    ∷ example (sector_v Cowd 32769 2048) 37
    ∷ example (sector_of Cowd 16 8 one 1) 37
    ∷ example (sector_of Cowd 16 8 one 2) 45
    ∷ example (sectors_laid Cowd 16 8 one) 45
    -- 44, with place 0
    ∷ example (number NotMovable) 44
    ∷ example (place NotMovable) 0
    ∷ []

pub cowd_numbers : Hold numbers
unfolding grains directory_entries directory_sectors one_if_stored stored_below table_count tables_at tables_end sector_v sector_of sectors_laid
cowd_numbers = refl

-- ---- bytes
abbrev bytes : List (Example (List ℕ))
bytes =
    -- each field as document 02 has it: version 1, flags 3, capacity, grain size, 4, n, the file's length, zeros
    example (header_bytes Cowd 0x1020304 16 0x5060708)
    (joined
    ((0x43 ∷ 0x4f ∷ 0x57 ∷ 0x44 ∷ 1 ∷ 0 ∷ 0 ∷ 0 ∷ 3 ∷ 0 ∷ 0 ∷ 0 ∷ [])
    ∷ (4 ∷ 3 ∷ 2 ∷ 1 ∷ 16 ∷ 0 ∷ 0 ∷ 0 ∷ [])
    ∷ (4 ∷ 0 ∷ 0 ∷ 0 ∷ 3 ∷ 1 ∷ 0 ∷ 0 ∷ 8 ∷ 7 ∷ 6 ∷ 5 ∷ [])
    ∷ zeros 2016
    ∷ []))
    -- tables at sectors 5 and 37; unused entries are 0
    ∷ example (directory_bytes Cowd 32769 8) (le_bytes 4 5 ++ le_bytes 4 37 ++ zeros 504)
    ∷ example (gap_bytes Cowd 16 8) []
    ∷ []

pub cowd_bytes : Hold bytes
unfolding pick le_bytes zeros rows directory_entries directory_sectors table_count tables_at tables_end sector_v header_bytes directory_bytes gap_bytes
cowd_bytes = refl
