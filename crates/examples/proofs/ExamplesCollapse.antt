-- Collapse and normal form: refusals 43, 23, 22, 27 and 21, the output, and the parts of the layout byte by byte.
use Prim.Native.Nat.{ℕ, zero, suc}
use mathlib.Core.List.{List, [], ◌∷◌, ◌++◌}
use mathlib.Core.Path.{refl}
use lib.ListN.{replicate}
use Rattle.base.specs.Pick.{pick}
use Rattle.base.specs.Numbers.{le_bytes}
use Rattle.base.specs.Strings.{same_at}
use Rattle.base.specs.Bytes.{over, zeros}
use Rattle.base.specs.Rows.{rows}
use Rattle.format.specs.Geometry.{grains, directory_entries, directory_sectors}
use Rattle.format.specs.Header.{kind_gone, judge_cowd, judge_of}
use Rattle.format.specs.Check.{check_from}
use Rattle.format.specs.Chain.{unlike}
use Rattle.format.specs.Grains.{Map, absent, zeroed, stored, clip, bytes_of, one_if_stored, stored_below, entry_for}
use Rattle.format.specs.Layout.{table_count, tables_at, tables_end, sector_v, sector_of, header_bytes, directory_bytes}
use Rattle.format.specs.Layout.{table_bytes, gap_bytes, grain_bytes, sectors_laid}
use Rattle.format.specs.Collapse.{if_accepted, written_if_room, normal_from, normal, collapse_from, collapse, output}
use Rattle.format.specs.declared.Kind.TheVariants.{Kdmv}
use Rattle.format.specs.declared.Refusal.TheVariants.{TooShort, Magic, TooLittleRoom, LayersDiffer, NotCollapsible, StillOpen}
use Rattle.format.specs.declared.Refusal.TheVariants.{KindGone}
use Rattle.examples.specs.Examples.{Example, example, Hold}
use Rattle.examples.specs.Images.{joined, cowd_sectors, sized_header, open_header, stream_header}
use Rattle.std.specs.Prelude.{Result, Ok, Err}
use Rattle.format.specs.declared.Refusal.{Refusal}
use Rattle.format.specs.AnswerParts.{accepted_as}

-- grain 0 is zero, grain 1 stored, all others absent
abbrev grains_of : List ℕ → Map
grains_of bytes zero = zeroed
grains_of bytes (suc zero) = stored bytes
grains_of bytes (suc (suc g)) = absent

-- ---- answers
abbrev answers : List (Example (Result ℕ Refusal))
answers =
    -- the check comes first, the lower's before the upper's
    example (normal [] 0) (Err TooShort)
    ∷ example (collapse (zeros 4) [] 0) (Err Magic)
    ∷ example (if_accepted (accepted_as 16 8) (Ok 1)) (Ok 1)
    -- 43 is the check's
    ∷ example (normal (cowd_sectors 1 1 4 1) 0) (Err KindGone)
    ∷ example (collapse (cowd_sectors 1 1 4 1) [] 0) (Err KindGone)
    -- 23: compressed, either one of two
    ∷ example (normal_from (stream_header 1) (grains_of []) 9999) (Err NotCollapsible)
    ∷ example (collapse_from (stream_header 1) (sized_header 16 8) (grains_of []) 9999) (Err NotCollapsible)
    ∷ example (collapse_from (sized_header 17 8) (stream_header 1) (grains_of []) 9999) (Err NotCollapsible)
    -- 22: capacities or grain sizes differ; it comes before 27 and 21
    ∷ example (collapse_from (sized_header 16 8) (sized_header 17 8) (grains_of []) 0) (Err LayersDiffer)
    ∷ example (collapse_from (sized_header 16 8) (sized_header 16 16) (grains_of []) 0) (Err LayersDiffer)
    ∷ example (collapse_from (open_header 16 8 1) (open_header 17 8 1) (grains_of []) 0) (Err LayersDiffer)
    -- 27: any number but 0, either one of two; it comes after 23 and before 21
    ∷ example (normal_from (open_header 16 8 1) (grains_of []) 0) (Err StillOpen)
    ∷ example (normal_from (open_header 16 8 255) (grains_of []) 9999) (Err StillOpen)
    ∷ example (collapse_from (open_header 16 8 2) (sized_header 16 8) (grains_of []) 0) (Err StillOpen)
    ∷ example (collapse_from (sized_header 16 8) (open_header 16 8 1) (grains_of []) 9999) (Err StillOpen)
    -- 21: V is 8 and one grain is stored, so 8,192 bytes
    ∷ example (collapse_from (sized_header 16 8) (sized_header 16 8) (grains_of []) 8191) (Err TooLittleRoom)
    ∷ example (collapse_from (sized_header 16 8) (sized_header 16 8) (grains_of []) 8192) (Ok 8192)
    ∷ example (normal_from (sized_header 16 8) (grains_of []) 8191) (Err TooLittleRoom)
    ∷ example (normal_from (sized_header 16 8) (grains_of []) 8192) (Ok 8192)
    ∷ []

pub answers_hold : Hold answers
unfolding pick le_bytes zeros same_at grains directory_entries directory_sectors kind_gone judge_cowd judge_of check_from unlike one_if_stored stored_below table_count tables_at tables_end sector_v sectors_laid if_accepted written_if_room normal_from collapse_from
answers_hold = refl

-- ---- numbers of the layout
abbrev numbers : List (Example ℕ)
numbers =
    -- 512 grains of 8 sectors have one table, 513 have two
    example (table_count Kdmv 4096 8) 1
    ∷ example (table_count Kdmv 4097 8) 2
    -- 128 entries take a sector, 129 two
    ∷ example (directory_sectors 128) 1
    ∷ example (directory_sectors 129) 2
    ∷ example (grains 16 8) 2
    ∷ example (grains 17 8) 3
    -- the tables from 1 + 1 on, up to 1 + 1 + 2 x 4; V a multiple of the grain size, also where the tables end at one
    ∷ example (tables_at Kdmv 4097 8) 2
    ∷ example (tables_end Kdmv 4097 8) 10
    ∷ example (sector_v Kdmv 4097 8) 16
    ∷ example (sector_v Kdmv 4097 16) 16
    ∷ example (tables_end Kdmv 0x8000000 2048) 514
    ∷ example (sector_of Kdmv 16 8 (grains_of []) 1) 8
    ∷ example (sector_of Kdmv 16 8 (grains_of []) 2) 16
    ∷ []

pub numbers_hold : Hold numbers
unfolding grains directory_entries directory_sectors one_if_stored stored_below table_count tables_at tables_end sector_v sector_of
numbers_hold = refl

-- ---- bytes
abbrev bytes : List (Example (List ℕ))
bytes =
    -- each field as document 01 has it
    example (header_bytes Kdmv 16 8 0)
    (joined
    ((0x4b ∷ 0x44 ∷ 0x4d ∷ 0x56 ∷ 2 ∷ 0 ∷ 0 ∷ 0 ∷ 5 ∷ 0 ∷ 0 ∷ 0 ∷ [])
    ∷ (16 ∷ 0 ∷ 0 ∷ 0 ∷ 0 ∷ 0 ∷ 0 ∷ 0 ∷ 8 ∷ 0 ∷ 0 ∷ 0 ∷ 0 ∷ 0 ∷ 0 ∷ 0 ∷ [])
    ∷ zeros 16
    ∷ (0 ∷ 2 ∷ 0 ∷ 0 ∷ [])
    ∷ zeros 8
    ∷ (1 ∷ 0 ∷ 0 ∷ 0 ∷ 0 ∷ 0 ∷ 0 ∷ 0 ∷ 8 ∷ 0 ∷ 0 ∷ 0 ∷ 0 ∷ 0 ∷ 0 ∷ 0 ∷ [])
    ∷ (0 ∷ 0x0a ∷ 0x20 ∷ 0x0d ∷ 0x0a ∷ [])
    ∷ zeros 435
    ∷ []))
    -- tables at sectors 2 and 6; unused entries are 0
    ∷ example (directory_bytes Kdmv 4097 8) (le_bytes 4 2 ++ le_bytes 4 6 ++ zeros 504)
    -- grain 0 zero, grain 1 at V; unused entries are 0
    ∷ example (table_bytes Kdmv 16 8 (grains_of [])) (le_bytes 4 1 ++ le_bytes 4 8 ++ zeros 2040)
    ∷ example (gap_bytes Kdmv 16 8) (zeros 1024)
    ∷ example (grain_bytes 16 8 (grains_of (7 ∷ 9 ∷ []))) (7 ∷ 9 ∷ [])
    -- capacity 1 ends inside the grain: its first sector counts
    ∷ example (clip 1 2 0 (replicate 1024 7)) (replicate 512 7 ++ zeros 512)
    ∷ example (clip 3 2 1 (replicate 1024 7)) (replicate 512 7 ++ zeros 512)
    -- the output past the image keeps what it held; on a refusal all of it does
    ∷ example (output (Ok 2) (7 ∷ 9 ∷ []) (1 ∷ 2 ∷ 3 ∷ [])) (7 ∷ 9 ∷ 3 ∷ [])
    ∷ example (output (Err TooLittleRoom) (7 ∷ 9 ∷ []) (1 ∷ 2 ∷ 3 ∷ [])) (1 ∷ 2 ∷ 3 ∷ [])
    ∷ []

pub bytes_hold : Hold bytes
unfolding pick le_bytes over zeros rows grains directory_entries directory_sectors clip bytes_of one_if_stored stored_below entry_for table_count tables_at tables_end sector_v sector_of header_bytes directory_bytes table_bytes gap_bytes grain_bytes output
bytes_hold = refl
