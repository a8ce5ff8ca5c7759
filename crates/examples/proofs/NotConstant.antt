-- No constant answer meets the contract of a public call: for each there are two inputs whose answers differ, one of them a
-- refusal and the other not.
use Prim.Native.Nat.{ℕ, ◌≤◌}
use mathlib.Core.Path.{◌≡◌, refl, sym, ap, ◌∙◌}
use mathlib.Core.List.{List, [], ◌∷◌}
use native.Mathlib.Omega.{arith}
use lib.ListN.{length}
use Rattle.base.specs.Pick.{pick}
use Rattle.base.specs.Rounding.{power_up_to}
use Rattle.base.specs.Numbers.{le_at, le_bytes}
use Rattle.base.specs.Strings.{same_at, same_word, ascii}
use Rattle.base.specs.Bytes.{over, zeros}
use Rattle.base.specs.Rows.{rows}
use Rattle.format.specs.Geometry.{grains, directory_entries, directory_sectors}
use Rattle.format.specs.Kdmv.{kdmv_fields, kdmv_fault}
use Rattle.format.specs.Header.{kdmv_header, directory_of, header_of, unless_fault, with_footer, judge_kdmv, judge_of, judge}
use Rattle.format.specs.Entries.{meaning, in_table, entry_of_grain, grain_sectors, any_below}
use Rattle.format.specs.Areas.{if_there, named, redundant_tables, areas, runs_past, shares, shares_any, meet}
use Rattle.format.specs.Check.{misplaced, lowest_from, copy_differs, copies_differ, unless_grain, check_apart, check_copies}
use Rattle.format.specs.Check.{check_grains, check_layout, check_from, check}
use Rattle.format.specs.Source.{grain_source, lookup_grain, lookup_entry, lookup_table, lookup_in, lookup_from, sector_lookup}
use Rattle.format.specs.Source.{answer_part}
use Rattle.format.specs.Way.{no_way, to_directory, to_table, way_table, way_in, way_from, lookup_steps}
use Rattle.format.specs.Chain.{lengths_sum, unlike, if_known, headers_down, unless_absent, walk_down, walk, chain_lookup}
use Rattle.format.specs.Grains.{upper_unless_absent, grain_from, one_if_stored, stored_below}
use Rattle.format.specs.Layout.{table_count, tables_at, tables_end, sector_v, sectors_laid}
use Rattle.format.specs.Collapse.{if_accepted, written_if_room, normal_from, normal, collapse_from, collapse}
use Rattle.format.specs.Frame.{frame_areas, listed_if_room, frame_from, frame}
use Rattle.format.specs.CheckIn.{sectors_of, before_meeting, came_to_marking, check_in_room, with_marked, check_in}
use Rattle.format.specs.Mend.{from_good, over_table, mended_below, kinds_differ, is_refused, unmendable, change_of}
use Rattle.format.specs.Mend.{mended_if_room}
use Rattle.format.specs.Mend.{mend_good, mend_from, mend}
use Rattle.format.specs.Answers.{header_numbers, verdict, marked_numbers, located, chained, written, framed, surveyed}
use Rattle.format.specs.Answers.{side_of, mended_numbers}
use Rattle.format.specs.declared.numbers.Head.{Head}
use Rattle.format.specs.declared.numbers.Verdict.{Verdict}
use Rattle.format.specs.declared.numbers.Marked.{Marked}
use Rattle.format.specs.declared.numbers.Located.{Located}
use Rattle.format.specs.declared.steps.Steps.{Steps}
use Rattle.format.specs.declared.numbers.Part.{Part}
use Rattle.format.specs.declared.numbers.Written.{Written}
use Rattle.format.specs.declared.numbers.Framed.{Framed}
use Rattle.format.specs.declared.numbers.Mended.{Mended}
use Rattle.format.specs.declared.numbers.Surveyed.{Surveyed}
use Rattle.format.specs.Survey.{entry_kind, count_of, row_from, add_row, totals_below, surveyed_if_room, survey}
use Rattle.examples.specs.Images.{kdmv_sector, small, differing}
use Rattle.disk.specs.Split.{in_zero, by_type, in_extent, at_extent, split_from, split, split_numbers}
use Rattle.descriptor.specs.declared.Described.{Described}
use Rattle.descriptor.specs.declared.Extent.{Extent}
use Rattle.descriptor.specs.declared.Found.{Found}
use Rattle.descriptor.specs.Words.{count_before, kept, digit_value, numeral_from, numeral, to_quote_at, quoted_length}
use Rattle.descriptor.specs.Text.{lines_from}
use Rattle.descriptor.specs.Extents.{access_of, type_of, extent, with_type, with_sectors}
use Rattle.descriptor.specs.Keys.{key_of, version_is, create_type_is, value_of, with_key, split_at}
use Rattle.descriptor.specs.Line.{line_with}
use Rattle.descriptor.specs.Descriptor.{no_extent, skipped, opened, added, noted, once, judged_line, step, judged_end}
use Rattle.descriptor.specs.Descriptor.{ended, judged, judged_text, needed, accepted, read_text}
use Rattle.descriptor.specs.Records.{answered, descriptor_answer, found_from, find_answer}

-- a number of the answer is 0 for nothing and a for x, so no r is the answer for both
pub differ : {A B : Type 0} (f : List A → B) (n : B → ℕ) (x : List A) (a : ℕ) → 1 ≤ a → n (f []) ≡ 0 → n (f x) ≡ a → (r : B)
    → ((z : List A) → r ≡ f z) → ⊥
differ f n x a some p q r same = omega (arith, sym p ∙ ap n (sym (same []) ∙ same x) ∙ q)

-- ---- images: no bytes are refused, and then each number but the refusal's is 0
-- an accepted image of capacity 16
pub check_varies : (r : Verdict) → ((s : List ℕ) → r ≡ verdict (check s)) → ⊥
unfolding pick power_up_to le_at le_bytes same_at zeros grains directory_entries directory_sectors kdmv_fields kdmv_fault kdmv_header directory_of unless_fault with_footer judge_kdmv judge_of rows meaning in_table entry_of_grain if_there named redundant_tables areas runs_past shares shares_any meet misplaced lowest_from copies_differ unless_grain check_apart check_copies check_grains check_layout check_from
check_varies = differ (λ s. verdict (check s)) (λ (v : Verdict). v.capacity) (small 0 0 0 0) 16 (omega arith) refl refl

-- its six sectors, for which one word is enough
pub check_in_varies : (r : Marked) → ((s : List ℕ) (room : ℕ) → r ≡ marked_numbers (check_in s room)) → ⊥
unfolding pick power_up_to le_at le_bytes same_at zeros grains directory_entries directory_sectors kdmv_fields kdmv_fault kdmv_header directory_of header_of unless_fault with_footer judge_kdmv judge_of rows meaning in_table entry_of_grain if_there named redundant_tables areas runs_past shares shares_any meet misplaced lowest_from copies_differ unless_grain check_apart check_copies check_grains check_layout check_from sectors_of before_meeting came_to_marking check_in_room with_marked
check_in_varies r same =
    differ (λ s. marked_numbers (check_in s 1)) (λ (v : Marked). v.marked) (small 0 0 0 0) 6 (omega arith) refl refl r
    (λ s. same s 1)

-- its header
pub header_varies : (r : Head) → ((s : List ℕ) → r ≡ header_numbers (judge s)) → ⊥
unfolding pick power_up_to le_at le_bytes same_at zeros kdmv_fields kdmv_fault kdmv_header unless_fault with_footer judge_kdmv judge_of
header_varies =
    differ (λ s. header_numbers (judge s)) (λ (v : Head). v.capacity) (kdmv_sector 16 8 1) 16 (omega arith) refl refl

-- a sector that is stored, kind 2
pub lookup_varies : (r : Located) → ((s : List ℕ) (x : ℕ) → r ≡ located (sector_lookup s x)) → ⊥
unfolding pick power_up_to le_at le_bytes same_at zeros directory_entries directory_sectors kdmv_fields kdmv_fault kdmv_header directory_of unless_fault with_footer judge_kdmv judge_of meaning grain_sectors grain_source lookup_grain lookup_entry lookup_table lookup_in lookup_from
lookup_varies r same =
    differ (λ s. located (sector_lookup s 0)) (λ (v : Located). v.kind) (small 6 0 0 8) 2 (omega arith) refl refl r
    (λ s. same s 0)

pub steps_varies : (r : Steps) → ((s : List ℕ) (x : ℕ) → r ≡ lookup_steps s x) → ⊥
unfolding pick power_up_to le_at le_bytes same_at zeros directory_entries directory_sectors kdmv_fields kdmv_fault kdmv_header directory_of unless_fault with_footer judge_kdmv judge_of meaning grain_sectors grain_source lookup_grain lookup_entry lookup_table lookup_in lookup_from no_way to_directory to_table way_table way_in way_from
steps_varies r same =
    differ (λ s. lookup_steps s 0) (λ (v : Steps). v.table_entry) (small 6 0 0 8) 6 (omega arith) refl refl r
    (λ s. same s 0)

-- its 512 bytes
pub read_varies : (r : Part) → ((s : List ℕ) (x : ℕ) → r ≡ answer_part (sector_lookup s x)) → ⊥
unfolding pick power_up_to le_at le_bytes same_at zeros directory_entries directory_sectors kdmv_fields kdmv_fault kdmv_header directory_of unless_fault with_footer judge_kdmv judge_of meaning grain_sectors grain_source lookup_grain lookup_entry lookup_table lookup_in lookup_from
read_varies r same =
    differ (λ s. answer_part (sector_lookup s 0)) (λ (v : Part). v.length) (small 6 0 0 8) 512 (omega arith) refl refl r
    (λ s. same s 0)

-- the same sector, the image being a chain's only layer
pub chain_varies : (r : Located) → ((s lengths : List ℕ) (x : ℕ) → r ≡ chained (chain_lookup s lengths x)) → ⊥
unfolding pick power_up_to le_at le_bytes same_at zeros directory_entries directory_sectors kdmv_fields kdmv_fault kdmv_header directory_of unless_fault with_footer judge_kdmv judge_of meaning grain_sectors grain_source lookup_grain lookup_entry lookup_table lookup_in lookup_from header_of any_below lengths_sum unlike if_known headers_down unless_absent walk_down walk chain_lookup
chain_varies r same =
    differ (λ s. chained (chain_lookup s (length s ∷ []) 0)) (λ (v : Located). v.kind) (small 6 0 0 8) 2 (omega arith) refl refl
    r
    (λ s. same s (length s ∷ []) 0)

-- an image whose copies differ in one entry
pub mend_varies : (r : Mended) → ((s : List ℕ) (good room : ℕ) → r ≡ mended_numbers (mend s (side_of good) room)) → ⊥
unfolding pick power_up_to le_at le_bytes same_at over zeros grains directory_entries directory_sectors kdmv_fields kdmv_fault kdmv_header directory_of header_of unless_fault with_footer judge_kdmv judge_of rows meaning in_table entry_of_grain grain_sectors any_below if_there named redundant_tables areas runs_past shares shares_any meet misplaced lowest_from copy_differs copies_differ unless_grain check_apart check_copies check_grains check_layout check_from from_good over_table mended_below kinds_differ is_refused unmendable change_of mended_if_room mend_good mend_from
mend_varies r same =
    differ (λ s. mended_numbers (mend s (side_of 0) 3)) (λ (v : Mended). v.count) differing 1 (omega arith) refl refl r
    (λ s. same s 0 3)

-- header, directory and table, for which a list of nine words has room
pub frame_varies : (r : Framed) → ((s : List ℕ) (room : ℕ) → r ≡ framed (frame s room)) → ⊥
unfolding pick power_up_to le_at le_bytes same_at zeros grains directory_entries directory_sectors kdmv_fields kdmv_fault kdmv_header directory_of unless_fault with_footer judge_kdmv judge_of rows meaning if_there named redundant_tables runs_past misplaced frame_areas listed_if_room frame_from
frame_varies r same =
    differ (λ s. framed (frame s 9)) (λ (v : Framed). v.count) (small 0 0 0 0) 3 (omega arith) refl refl r (λ s. same s 9)

-- a stored grain in an image that stands alone
pub survey_varies : (r : Surveyed)
    → ((s lengths : List ℕ) (rows_room tally_room : ℕ) → r ≡ surveyed (survey s lengths rows_room tally_room)) → ⊥
unfolding pick power_up_to le_at le_bytes same_at zeros grains directory_entries directory_sectors kdmv_fields kdmv_fault kdmv_header directory_of unless_fault with_footer judge_kdmv judge_of rows meaning in_table entry_of_grain grain_sectors if_there named redundant_tables areas runs_past shares shares_any meet misplaced lowest_from copies_differ unless_grain check_apart check_copies check_grains check_layout check_from header_of lengths_sum entry_kind count_of row_from add_row totals_below surveyed_if_room survey
survey_varies r same =
    differ (λ s. surveyed (survey s (length s ∷ []) 6 63)) (λ (v : Surveyed). v.stored) (small 6 0 0 8) 1 (omega arith) refl
    refl r (λ s. same s (length s ∷ []) 6 63)

-- eight sectors are written, for which there is room
pub normal_varies : (r : Written) → ((s : List ℕ) (room : ℕ) → r ≡ written (normal s room)) → ⊥
unfolding pick power_up_to le_at le_bytes same_at zeros grains directory_entries directory_sectors kdmv_fields kdmv_fault kdmv_header directory_of unless_fault with_footer judge_kdmv judge_of rows meaning in_table entry_of_grain if_there named redundant_tables areas runs_past shares shares_any meet misplaced lowest_from copies_differ unless_grain check_apart check_copies check_grains check_layout check_from header_of grain_from one_if_stored stored_below table_count tables_at tables_end sector_v sectors_laid if_accepted written_if_room normal_from
normal_varies r same =
    differ (λ s. written (normal s 4096)) (λ (v : Written). v.length) (small 0 0 0 0) 4096 (omega arith) refl refl r
    (λ s. same s 4096)

pub collapse_varies : (r : Written) → ((lower upper : List ℕ) (room : ℕ) → r ≡ written (collapse lower upper room)) → ⊥
unfolding pick power_up_to le_at le_bytes same_at zeros grains directory_entries directory_sectors kdmv_fields kdmv_fault kdmv_header directory_of unless_fault with_footer judge_kdmv judge_of rows meaning in_table entry_of_grain if_there named redundant_tables areas runs_past shares shares_any meet misplaced lowest_from copies_differ unless_grain check_apart check_copies check_grains check_layout check_from header_of grain_from one_if_stored stored_below table_count tables_at tables_end sector_v sectors_laid if_accepted written_if_room upper_unless_absent unlike collapse_from
collapse_varies r same =
    differ (λ s. written (collapse s s 4096)) (λ (v : Written). v.length) (small 0 0 0 0) 4096 (omega arith) refl refl r
    (λ s. same s s 4096)

-- ---- descriptors: no bytes are refused; this text with one extent is not
text : List ℕ
text = ascii "# Disk DescriptorFile\nversion=1\nCID=1\nparentCID=1\ncreateType=\"\"\nRW 1 ZERO"

-- where the list has a record for it
pub descriptor_varies : (r : Described) → ((s : List ℕ) (list : List Extent) → r ≡ descriptor_answer s list) → ⊥
unfolding text pick same_word count_before kept digit_value numeral_from numeral to_quote_at quoted_length lines_from access_of type_of with_type with_sectors key_of version_is create_type_is value_of with_key split_at line_with skipped opened added noted once judged_line step judged_end ended judged read_text answered
descriptor_varies r same =
    differ (λ s. descriptor_answer s (no_extent ∷ [])) (λ (v : Described). v.extents) text 1 (omega arith) refl refl r
    (λ s. same s (no_extent ∷ []))

-- its only sector is zeros, kind 1
pub split_varies : (r : Located) → ((s files lengths : List ℕ) (x : ℕ) → r ≡ split_numbers (split s files lengths x)) → ⊥
unfolding text pick same_word count_before kept digit_value numeral_from numeral to_quote_at quoted_length lines_from access_of type_of with_type with_sectors key_of version_is create_type_is value_of with_key split_at line_with skipped opened added noted once judged_line step judged_end ended judged read_text found_from lengths_sum in_zero by_type in_extent at_extent split_from
split_varies r same =
    differ (λ s. split_numbers (split s [] (0 ∷ []) 0)) (λ (v : Located). v.kind) text 1 (omega arith) refl refl r
    (λ s. same s [] (0 ∷ []) 0)

-- no record of an empty list holds a sector; of this one the record 1 does
pub find_varies : (r : Found) → ((list : List Extent) (sector : ℕ) → r ≡ find_answer list sector) → ⊥
unfolding pick found_from
find_varies r same =
    differ (λ list. find_answer list 1) (λ (v : Found). v.extent) (one 0 ∷ one 1 ∷ []) 1 (omega arith) refl refl r
    (λ list. same list 1)
  where
    one : ℕ → Extent
    one first = record { first = first; sectors = 1; access = 1; kind = 5; name_at = 0; name_length = 0; offset = 0 }
