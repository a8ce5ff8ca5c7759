-- The frame of an image: its areas but for the grains, in the order of the list of areas. Each is told in three words: the
-- number of its group, its first sector and its sectors.
use Rattle.std.specs.Prelude.{ℕ, ◌*◌, List, [], ◌∷◌, ◌++◌, ltb, length}
use Rattle.base.specs.Pick.{pick}
use Rattle.base.specs.Bytes.{over}
use Rattle.format.specs.Header.{header_of, judge}
use Rattle.format.specs.Areas.{Area, header_area, descriptor_area, directory_area, redundant_area, primary_tables}
use Rattle.format.specs.Areas.{redundant_tables, footer_area, last_area}
use Rattle.format.specs.Check.{misplaced, lowest_misplaced}
use Rattle.format.specs.declared.Header.{Header}
use Rattle.format.specs.declared.Refusal.TheVariants.{Misplaced, TooLittleRoom}
use Rattle.std.specs.Prelude.{Result, Ok, Err}
use Rattle.format.specs.declared.Refusal.{Refusal}

-- ---- the list
-- one area, and the areas of one group
unfoldable pub told_area : ℕ → Area → List ℕ
told_area group a = group ∷ a.first ∷ a.sector_count ∷ []

unfoldable pub told : ℕ → List Area → List ℕ
told group [] = []
told group (a ∷ l) = told_area group a ++ told group l

-- 1 header, 2 descriptor, 3 directory, 4 redundant directory, 5 primary tables, 6 redundant tables, 7 footer, 8 last sector
unfoldable pub frame_words : List ℕ → Header → List ℕ
frame_words s h =
    told 1 (header_area h)
    ++ (told 2 (descriptor_area h)
    ++ (told 3 (directory_area h)
    ++ (told 4 (redundant_area h)
    ++ (told 5 (primary_tables s h)
    ++ (told 6 (redundant_tables s h) ++ (told 7 (footer_area s h) ++ told 8 (last_area s h)))))))

-- the same areas, and how many they are: the words are three times as many
unfoldable pub frame_areas : List ℕ → Header → List Area
frame_areas s h =
    header_area h
    ++ (descriptor_area h
    ++ (directory_area h
    ++ (redundant_area h ++ (primary_tables s h ++ (redundant_tables s h ++ (footer_area s h ++ last_area s h))))))

abbrev pub frame_count : List ℕ → Header → ℕ
frame_count s h = length (frame_areas s h)

-- ---- the answer, where the list has `room` words: 1 to 8 as the check has them, then 21
unfoldable pub listed_if_room : ℕ → ℕ → Result ℕ Refusal
listed_if_room room count = pick (ltb room (3 * count)) (Err TooLittleRoom) (Ok count)

unfoldable pub frame_from : List ℕ → ℕ → Result Header Refusal → Result ℕ Refusal
frame_from s room (Err r) = Err r
frame_from s room (Ok h) =
    pick (misplaced s h) (Err (Misplaced (lowest_misplaced s h))) (listed_if_room room (frame_count s h))

abbrev pub frame : List ℕ → ℕ → Result ℕ Refusal
frame s room = frame_from s room (judge s)

-- ---- the lent list: the words from its start on, and what it held past them; on a refusal all that it held
unfoldable pub list_after : Result ℕ Refusal → List ℕ → List ℕ → List ℕ
list_after (Ok count) words list = over list 0 words
list_after (Err r) words list = list

abbrev pub frame_list : List ℕ → List ℕ → List ℕ
frame_list s list = list_after (frame s (length list)) (frame_words s (header_of s)) list
