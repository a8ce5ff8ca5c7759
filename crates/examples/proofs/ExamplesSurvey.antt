-- Surveys of small images: rows word by word, the tally, and the answer at its edges.
use Prim.Native.Nat.{ℕ}
use mathlib.Core.List.{List, [], ◌∷◌}
use mathlib.Core.Path.{◌≡◌, refl}
use lib.ListN.{length, replicate}
use Rattle.base.specs.Pick.{pick}
use Rattle.base.specs.Rounding.{power_up_to}
use Rattle.base.specs.Numbers.{le_at, le_bytes}
use Rattle.base.specs.Strings.{same_at}
use Rattle.base.specs.Bytes.{over, zeros}
use Rattle.base.specs.Rows.{rows}
use Rattle.format.specs.Geometry.{grains, directory_entries, directory_sectors}
use Rattle.format.specs.Kdmv.{kdmv_fields, kdmv_fault}
use Rattle.format.specs.Header.{kdmv_header, directory_of, header_of, unless_fault, with_footer, judge_kdmv, judge_of}
use Rattle.format.specs.Entries.{meaning, in_table, entry_of_grain, grain_sectors}
use Rattle.format.specs.Areas.{if_there, named, redundant_tables, areas, runs_past, shares, shares_any, meet}
use Rattle.format.specs.Check.{misplaced, lowest_from, copies_differ, unless_grain, check_apart, check_copies}
use Rattle.format.specs.Check.{check_grains, check_layout, check_from}
use Rattle.format.specs.Chain.{lengths_sum}
use Rattle.format.specs.Survey.{entry_kind, count_of, row_from, row_words, rows_below, tally_below, add_row, totals_below}
use Rattle.format.specs.Survey.{surveyed_if_room, survey, after_survey}
use Rattle.format.specs.declared.Refusal.TheVariants.{TooLittleRoom, LayerLengths}
use Rattle.examples.specs.Images.{small}
use Rattle.std.specs.Prelude.{Result, Ok, Err}
use Rattle.format.specs.declared.Totals.{Totals}
use Rattle.format.specs.declared.Refusal.{Refusal}

-- ---- an image of two grains, the one stored and the other zero, then one of no bytes, which is refused 1
abbrev images : List ℕ
images = small 6 1 0 8

abbrev lengths : List ℕ
lengths = length images ∷ 0 ∷ []

pub rows_two : rows_below images lengths 2 ≡ 1 ∷ 1 ∷ 0 ∷ 0 ∷ 0 ∷ 0 ∷ 0 ∷ 0 ∷ 0 ∷ 0 ∷ 1 ∷ 0 ∷ []
unfolding pick power_up_to le_at le_bytes same_at zeros grains directory_entries directory_sectors kdmv_fields kdmv_fault kdmv_header directory_of unless_fault with_footer judge_kdmv judge_of rows meaning in_table entry_of_grain grain_sectors if_there named redundant_tables areas runs_past shares shares_any meet misplaced lowest_from copies_differ unless_grain check_apart check_copies check_grains check_layout check_from header_of lengths_sum entry_kind count_of row_from row_words
rows_two = refl

-- ---- images of no bytes: three are refused 1
pub tally_three : tally_below [] (0 ∷ 0 ∷ 0 ∷ []) 3 ≡ 3 ∷ replicate 62 0
unfolding pick rows judge_of check_from header_of same_at lengths_sum count_of row_from
tally_three = refl

-- ---- the answer
abbrev asked : List ℕ → ℕ → ℕ → Result Totals Refusal
asked l rows_room tally_room = survey [] l rows_room tally_room

pub answers :
    (asked [] 6 63 ≡ Err LayerLengths)
    × (asked (replicate 1025 0) 6150 63 ≡ Err LayerLengths)
    × (asked (1 ∷ []) 6 63 ≡ Err LayerLengths)
    × (asked (0 ∷ []) 5 63 ≡ Err TooLittleRoom)
    × (asked (0 ∷ []) 6 62 ≡ Err TooLittleRoom)
    × (asked (0 ∷ []) 6 63 ≡ Ok (record { stored = 0; zero = 0; absent = 0; packed = 0 }))
unfolding pick judge_of check_from header_of same_at lengths_sum count_of row_from add_row totals_below surveyed_if_room survey
answers = (refl, refl, refl, refl, refl, refl)

-- ---- a list: words from its start on, and the rest as it was; on a refusal all as it was
pub list_after_lem :
    (after_survey (Ok (record { stored = 0; zero = 0; absent = 0; packed = 0 })) (1 ∷ 2 ∷ []) (9 ∷ 9 ∷ 9 ∷ [])
    ≡ 1 ∷ 2 ∷ 9 ∷ [])
    × (after_survey (Err TooLittleRoom) (1 ∷ 2 ∷ []) (9 ∷ []) ≡ 9 ∷ [])
unfolding over after_survey
list_after_lem = (refl, refl)
