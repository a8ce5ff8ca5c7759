-- The frame of small images, word by word: the order of the groups, which areas there are, and the room at its edge.
use Prim.Native.Nat.{ℕ}
use mathlib.Core.List.{List, [], ◌∷◌}
use mathlib.Core.Path.{◌≡◌, refl}
use Rattle.base.specs.Pick.{pick}
use Rattle.base.specs.Numbers.{le_at, le_bytes}
use Rattle.base.specs.Bytes.{over, zeros}
use Rattle.base.specs.Rows.{rows}
use Rattle.format.specs.Geometry.{directory_entries}
use Rattle.format.specs.Entries.{meaning}
use Rattle.format.specs.Areas.{if_there, named, redundant_tables, runs_past}
use Rattle.format.specs.Check.{misplaced, lowest_misplaced}
use Rattle.format.specs.Frame.{told_area, told, frame_words, frame_areas, listed_if_room, frame_from, list_after}
use Rattle.format.specs.declared.Header.{Header}
use Rattle.format.specs.declared.MisplacedPart.TheVariants.{Directory}
use Rattle.format.specs.declared.Refusal.TheVariants.{Flags, Misplaced, TooLittleRoom}
use Rattle.examples.specs.Images.{doubled, packed, plain_header, stream_header}
use Rattle.std.specs.Prelude.{Result, Ok, Err}
use Rattle.format.specs.declared.Refusal.{Refusal}

-- ---- the words
-- header, descriptor, both directories, and a table of each
abbrev doubled_words : List ℕ
doubled_words = 1 ∷ 0 ∷ 1 ∷ 2 ∷ 11 ∷ 1 ∷ 3 ∷ 1 ∷ 1 ∷ 4 ∷ 2 ∷ 1 ∷ 5 ∷ 3 ∷ 4 ∷ 6 ∷ 7 ∷ 4 ∷ []

pub words_doubled : frame_words doubled (plain_header 11 1 1 2) ≡ doubled_words
unfolding pick le_at le_bytes over zeros rows directory_entries meaning if_there named redundant_tables told_area told frame_words
words_doubled = refl

-- of a stream: header, descriptor, directory, table, footer and last sector
pub words_stream : frame_words (packed 0 500 8 1012) (stream_header 1)
    ≡ 1 ∷ 0 ∷ 1 ∷ 2 ∷ 9 ∷ 1 ∷ 3 ∷ 1 ∷ 1 ∷ 5 ∷ 2 ∷ 4 ∷ 7 ∷ 10 ∷ 1 ∷ 8 ∷ 11 ∷ 1 ∷ []
unfolding pick le_at le_bytes over zeros rows directory_entries meaning if_there named redundant_tables told_area told frame_words
words_stream = refl

-- ---- the answer: room for all words or one fewer, a directory past F, a refused header
abbrev asked : ℕ → Header → Result ℕ Refusal
asked room h = frame_from doubled room (Ok h)

pub answers_doubled :
    (asked 18 (plain_header 11 1 1 2) ≡ Ok 6)
    × (asked 17 (plain_header 11 1 1 2) ≡ Err TooLittleRoom)
    × (asked 0 (plain_header 11 1 12 2) ≡ Err (Misplaced Directory))
    × (frame_from doubled 18 (Err Flags) ≡ Err Flags)
unfolding pick le_at le_bytes over zeros rows directory_entries meaning if_there named redundant_tables runs_past misplaced lowest_misplaced frame_areas listed_if_room frame_from
answers_doubled = (refl, refl, refl, refl)

-- ---- the list: words from its start on, and the rest as it was; on a refusal all as it was
pub lists :
    (list_after (Ok 1) (1 ∷ 0 ∷ 1 ∷ []) (9 ∷ 9 ∷ 9 ∷ 9 ∷ []) ≡ 1 ∷ 0 ∷ 1 ∷ 9 ∷ [])
    × (list_after (Err TooLittleRoom) (1 ∷ 0 ∷ 1 ∷ []) (9 ∷ 9 ∷ []) ≡ 9 ∷ 9 ∷ [])
unfolding over list_after
lists = (refl, refl)
