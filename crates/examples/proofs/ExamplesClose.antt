-- Closing computed on small starts (request A12): what the walk keeps and where it stops, 41 part by part, 21 and the tail's
-- bytes, all written out as document 02 has them.
use Prim.Native.Nat.{ℕ}
use mathlib.Core.Path.{◌≡◌, refl}
use mathlib.Core.List.{List, [], ◌∷◌, ◌++◌}
use lib.Dec.{lit<}
use lib.ListN.{replicate}
use Rattle.base.specs.Pick.{pick}
use Rattle.base.specs.Rounding.{power_up_to}
use Rattle.base.specs.Numbers.{le_at, le_bytes}
use Rattle.base.specs.Strings.{same_at}
use Rattle.base.specs.Bytes.{over, zeros}
use Rattle.base.specs.Rows.{rows}
use Rattle.base.specs.SumsBelow.{sum_below}
use Rattle.format.specs.Geometry.{directory_entries, directory_sectors}
use Rattle.format.specs.Kdmv.{kdmv_fields, kdmv_fault}
use Rattle.format.specs.Header.{kdmv_header, start_of, unless_fault, kind_gone, judge_cowd, judge_kdmv_start, judge_start}
use Rattle.format.specs.Entries.{grain_sectors}
use Rattle.format.specs.Check.{check}
use Rattle.format.specs.Source.{sector_lookup}
use Rattle.format.specs.Stream.{if_whole, block_at, KeptGrain, kept_grain, walk_on, walk, walk_from, kept_grains, grains_end}
use Rattle.format.specs.Tail.{kept_entry, has_grains, marker_bytes, table_parts, new_directory_bytes, footer_bytes, tail_bytes}
use Rattle.format.specs.Close.{closed_image, close_from, close_judged, close, tail_written, close_output}
use Rattle.format.specs.declared.Refusal.TheVariants.{TooShort, Magic, Version, Flags, TooLittleRoom, NotClosable, KindGone}
use Rattle.format.specs.declared.Source.TheVariants.{Packed}
use Rattle.examples.specs.Images.{joined, with, start_sector, start, small_cowd, small, plain_header, stream_header}
use Rattle.examples.specs.Images.{start_header}
use Rattle.examples.specs.Examples.{Example, example, Hold}
use Rattle.laws.specs.Closed.{Closable, Among, first}
use Rattle.laws.proofs.ClosedAccepted.{closed_accepted}
use Rattle.laws.proofs.ClosedServed.{closed_packed}
use Rattle.laws.proofs.ClosedAnswer.{closed_answer}
use Rattle.std.specs.Prelude.{Result, Ok, Err}
use Rattle.format.specs.declared.Refusal.{Refusal}
use Rattle.format.specs.declared.closing.Kept.{Kept}
use Rattle.format.specs.AnswerParts.{accepted_as}
use Rattle.format.specs.AnswerParts.{closed_as}

-- a grain of one sector, with its first virtual sector and its size, and a marker of another kind
abbrev grain : ℕ → ℕ → List ℕ
grain sector size = joined (le_bytes 8 sector ∷ le_bytes 4 size ∷ replicate 500 0x99 ∷ [])

abbrev marker : ℕ → ℕ → List ℕ
marker number type = joined (le_bytes 8 number ∷ le_bytes 4 0 ∷ le_bytes 4 type ∷ zeros 496 ∷ [])

-- ---- the walk over blocks from sector 0 on: capacity 16, grain size 8
abbrev walked : List ℕ → List KeptGrain
walked blocks = walk_from blocks (stream_header 0) 0 0

abbrev walks : List (Example (List KeptGrain))
walks =
    -- no sector; bytes of no whole one
    example (walked []) []
    ∷ example (walked (zeros 511)) []
    -- one grain, two grains; the second is not above the first
    ∷ example (walked (grain 8 500)) (kept_grain 1 0 1 ∷ [])
    ∷ example (walked (grain 0 500 ++ grain 8 1)) (kept_grain 0 0 1 ∷ kept_grain 1 1 1 ∷ [])
    ∷ example (walked (grain 8 500 ++ grain 8 500)) (kept_grain 1 0 1 ∷ [])
    ∷ example (walked (grain 8 500 ++ grain 0 500)) (kept_grain 1 0 1 ∷ [])
    -- 501 bytes take a second sector, which is there or not
    ∷ example (walked (grain 8 501)) []
    ∷ example (walked (grain 8 501 ++ zeros 512)) (kept_grain 1 0 2 ∷ [])
    -- not a multiple of grain size, not below capacity
    ∷ example (walked (grain 12 500)) []
    ∷ example (walked (grain 16 500)) []
    ∷ []

pub walks_hold : Hold walks
unfolding pick le_at le_bytes zeros grain_sectors if_whole block_at walk_on walk
walks_hold = refl

-- a table and a directory between two grains, a table of which a sector is missing; types 0, 3 and another
abbrev others : List (Example (List KeptGrain))
others =
    example (walked (marker 4 1 ++ replicate 2048 0x77 ++ grain 8 500)) (kept_grain 1 5 1 ∷ [])
    ∷ example (walked (marker 1 2 ++ replicate 512 0x77 ++ grain 8 500)) (kept_grain 1 2 1 ∷ [])
    ∷ example (walked (marker 4 1 ++ replicate 2047 0x77)) []
    ∷ example (walked (marker 0 0 ++ grain 8 500)) []
    ∷ example (walked (marker 0 3 ++ grain 8 500)) []
    ∷ example (walked (marker 0 4 ++ grain 8 500)) []
    ∷ []

pub others_hold : Hold others
unfolding pick le_at le_bytes zeros grain_sectors if_whole block_at walk_on walk
others_hold = refl

-- ---- 41 part by part, then 21: two sectors with an overhead
abbrev begun : ℕ → List ℕ
begun overhead = joined (zeros 64 ∷ le_bytes 8 overhead ∷ zeros 952 ∷ [])

abbrev judged : List (Example (Result Kept Refusal))
judged =
    example (close_from (begun 2) (start_header 1 1 0) 2560) (closed_as 2 0 2560)
    ∷ example (close_from (begun 2) (start_header 1 1 0) 2559) (Err TooLittleRoom)
    -- a redundant directory; the directory not at the end
    ∷ example (close_from (begun 2) (start_header 1 1 5) 2560) (Err NotClosable)
    ∷ example (close_from (begun 2) (plain_header 1 1 1 0) 2560) (Err NotClosable)
    -- overhead under 2 and past F; 41 comes before 21
    ∷ example (close_from (begun 1) (start_header 0 0 0) 2560) (Err NotClosable)
    ∷ example (close_from (begun 3) (start_header 0 0 0) 0) (Err NotClosable)
    -- no descriptor, one number zero and one not, one that runs into the overhead's sector
    ∷ example (close_from (begun 2) (start_header 0 0 0) 2560) (closed_as 2 0 2560)
    ∷ example (close_from (begun 2) (start_header 1 0 0) 2560) (Err NotClosable)
    ∷ example (close_from (begun 2) (start_header 0 1 0) 2560) (Err NotClosable)
    ∷ example (close_from (begun 2) (start_header 1 2 0) 2560) (Err NotClosable)
    ∷ []

pub judged_hold : Hold judged
unfolding pick le_at le_bytes zeros sum_below directory_entries grain_sectors if_whole block_at walk_on walk grains_end has_grains close_from
judged_hold = refl

-- ---- whole starts
pub starts_hold :
    -- 7 is not given: there is no footer
    (close start 2560 ≡ closed_as 2 0 2560)
    × (close [] 2560 ≡ Err TooShort)
    × (close (zeros 4) 2560 ≡ Err Magic)
    × (close (with 4 4 4 start) 2560 ≡ Err Version)
    × (close (with 8 4 0x10005 start) 2560 ≡ Err Flags)
    -- COWD is 43; an image whose directory is not at the end 41
    × (close small_cowd 2560 ≡ Err KindGone)
    × (close (small 0 0 0 0) 2560 ≡ Err NotClosable)
unfolding pick power_up_to le_at le_bytes same_at over zeros sum_below directory_entries directory_sectors kdmv_fields kdmv_fault kdmv_header unless_fault kind_gone judge_cowd judge_kdmv_start judge_start grain_sectors if_whole block_at walk_on walk grains_end has_grains close_from close_judged
starts_hold = (refl, refl, refl, refl, refl, refl, refl)

-- ---- the tail: grain 1 is kept at sector 2, and the tail starts at sector 3. Behind their markers the table stands at 4 and
-- the directory at 9
pub tail_holds : tail_bytes start (start_header 1 1 0) 3 (kept_grain 1 2 1 ∷ [])
    ≡ joined
    (marker 4 1
    ∷ le_bytes 4 0
    ∷ le_bytes 4 2
    ∷ zeros 2040
    ∷ marker 1 2
    ∷ le_bytes 4 4
    ∷ zeros 508
    ∷ marker 0 3
    ∷ start_sector 9
    ∷ zeros 512
    ∷ [])
unfolding pick le_bytes over zeros rows sum_below directory_entries kept_entry has_grains marker_bytes table_parts new_directory_bytes footer_bytes tail_bytes
tail_holds = refl

-- without grains there is no table. The output holds the tail, and past it what it held; with a byte too little all of that
pub outputs_hold :
    (close_output start (replicate 2561 7)
    ≡ joined
    (marker 1 2 ∷ zeros 512 ∷ marker 0 3 ∷ start_sector 3 ∷ zeros 512 ∷ (7 ∷ []) ∷ []))
    × (close_output start (replicate 2559 7) ≡ replicate 2559 7)
unfolding pick power_up_to le_at le_bytes same_at over zeros rows sum_below directory_entries directory_sectors kdmv_fields kdmv_fault kdmv_header unless_fault judge_kdmv_start judge_start grain_sectors if_whole block_at walk_on walk grains_end kept_entry has_grains marker_bytes table_parts new_directory_bytes footer_bytes tail_bytes close_from close_judged tail_written
outputs_hold = (refl, refl)

-- ---- what is promised of closed images is promised of some: grain 1 was kept at sector 2 of this one
abbrev one_grain : List ℕ
one_grain = start ++ grain 8 500

one_closed : close one_grain 5120 ≡ closed_as 3 1 5120
unfolding pick power_up_to le_at le_bytes same_at over zeros sum_below directory_entries directory_sectors kdmv_fields kdmv_fault kdmv_header unless_fault judge_kdmv_start judge_start grain_sectors if_whole block_at walk_on walk grains_end has_grains close_from close_judged
one_closed = refl

one_closable : Closable one_grain
one_closable = (closed_answer one_grain 5120 3 1 5120 one_closed).closable

one_kept : kept_grains one_grain (start_of one_grain) ≡ kept_grain 1 2 1 ∷ []
unfolding pick le_at le_bytes over zeros kdmv_fields kdmv_header grain_sectors if_whole block_at walk_on walk
one_kept = refl

pub one_accepted : check (closed_image one_grain) ≡ accepted_as 16 8
unfolding le_at le_bytes over zeros kdmv_fields kdmv_header
one_accepted = closed_accepted one_grain one_closable

one_among : Among (kept_grain 1 2 1) (kept_grains one_grain (start_of one_grain))
one_among = rw one_kept first

pub one_served : sector_lookup (closed_image one_grain) 9 ≡ Ok (Packed 2 500 1)
unfolding le_at le_bytes over zeros kdmv_fields kdmv_header
one_served = closed_packed one_grain one_closable 9 (lit< tt) one_among refl
