-- The number of sectors marked and the lent list, on both sides of each edge.
use Prim.Native.Nat.{ℕ}
use mathlib.Core.List.{List, [], ◌∷◌}
use mathlib.Core.Path.{◌≡◌, refl}
use mathlib.Core.Bool.{true, false}
use Rattle.base.specs.Pick.{pick}
use Rattle.base.specs.Rounding.{ceil}
use Rattle.base.specs.Numbers.{le_at, le_bytes}
use Rattle.base.specs.Bytes.{over, zeros}
use Rattle.base.specs.Rows.{rows}
use Rattle.format.specs.Geometry.{grains, directory_entries}
use Rattle.format.specs.Entries.{meaning, in_table, entry_of_grain, grain_sectors}
use Rattle.format.specs.Areas.{Area, area, if_there, named, redundant_tables, areas, shares, shares_any}
use Rattle.format.specs.CheckIn.{sectors_of, before_meeting, marked_sectors, came_to_marking}
use Rattle.format.specs.declared.Refusal.TheVariants.{TooShort, GrainPast, CopiesDiffer, SharedSector, TooLittleRoom}
use Rattle.examples.specs.Images.{packed, doubled, plain_header, stream_header}
use Rattle.std.specs.Prelude.{Err}
use Rattle.format.specs.AnswerParts.{accepted_as}

-- ---- lists of areas: all that come before the first which meets an earlier one, and not that one
pub numbers :
    (marked_sectors [] ≡ 0)
    × (marked_sectors (area 0 1 ∷ area 1 2 ∷ area 3 4 ∷ []) ≡ 7)
    -- the third meets the second, in its last sector
    × (marked_sectors (area 0 1 ∷ area 1 2 ∷ area 2 4 ∷ area 9 9 ∷ []) ≡ 3)
    -- the last meets the first, and an area is met by one that begins before it
    × (marked_sectors (area 5 1 ∷ area 1 2 ∷ area 0 6 ∷ []) ≡ 3)
    -- one area twice
    × (marked_sectors (area 5 2 ∷ area 5 2 ∷ []) ≡ 2)
unfolding pick shares shares_any sectors_of before_meeting
numbers = (refl, refl, refl, refl, refl)

-- ---- images
pub images :
    -- header, descriptor, both directories and a table of each
    (marked_sectors (areas doubled (plain_header 11 1 1 2)) ≡ 12)
    -- the directory meets the descriptor, which came before it; the redundant directory meets a table, which comes after it
    × (marked_sectors (areas doubled (plain_header 1 4 1 2)) ≡ 5)
    × (marked_sectors (areas doubled (plain_header 11 1 1 5)) ≡ 4)
    -- a stream with packed grains of one sector and of two; the first takes two and meets the second, of two sectors and of one
    × (marked_sectors (areas (packed 0 500 8 501) (stream_header 1)) ≡ 12)
    × (marked_sectors (areas (packed 0 501 8 501) (stream_header 1)) ≡ 11)
    × (marked_sectors (areas (packed 0 501 8 500) (stream_header 1)) ≡ 11)
unfolding pick le_at le_bytes over zeros rows grains directory_entries meaning in_table entry_of_grain grain_sectors if_there named redundant_tables areas shares shares_any sectors_of before_meeting
images = (refl, refl, refl, refl, refl, refl)

-- ---- words: 64 sectors need one, and 65 two
pub words :
    (◌≡◌ {A = ℕ} (ceil 0 64) 0)
    × (◌≡◌ {A = ℕ} (ceil 1 64) 1)
    × (◌≡◌ {A = ℕ} (ceil 64 64) 1)
    × (◌≡◌ {A = ℕ} (ceil 65 64) 2)
words = (refl, refl, refl, refl)

-- ---- which answers come after marking: acceptance and 12
pub marking :
    (came_to_marking (accepted_as 16 8) ≡ true)
    × (came_to_marking (Err SharedSector) ≡ true)
    × (came_to_marking (Err TooShort) ≡ false)
    × (came_to_marking (Err (GrainPast 12)) ≡ false)
    × (came_to_marking (Err CopiesDiffer) ≡ false)
    × (came_to_marking (Err TooLittleRoom) ≡ false)
unfolding came_to_marking
marking = (refl, refl, refl, refl, refl, refl)
