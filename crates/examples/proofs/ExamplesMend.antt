-- Mending computed on the image with two directories, whose copies are made to differ.
use mathlib.Core.Path.{◌≡◌, refl}
use mathlib.Core.List.{[], ◌∷◌}
use Rattle.base.specs.Pick.{pick}
use Rattle.base.specs.Rounding.{power_up_to}
use Rattle.base.specs.Numbers.{le_at, le_bytes}
use Rattle.base.specs.Strings.{same_at}
use Rattle.base.specs.Bytes.{over, zeros}
use Rattle.base.specs.Rows.{rows}
use Rattle.format.specs.Geometry.{grains, directory_entries, directory_sectors}
use Rattle.format.specs.Kdmv.{kdmv_fields, kdmv_fault}
use Rattle.format.specs.Header.{kdmv_header, directory_of, header_of, unless_fault, with_footer, judge_kdmv, judge_of}
use Rattle.format.specs.Entries.{meaning, in_table, entry_of_grain, grain_sectors, any_below}
use Rattle.format.specs.Areas.{if_there, named, redundant_tables, areas, runs_past, shares, shares_any, meet}
use Rattle.format.specs.Check.{misplaced, lowest_misplaced, lowest_from, copy_differs, copies_differ, unless_grain, check_apart}
use Rattle.format.specs.Check.{check_copies, check_grains, check_layout, check_from}
use Rattle.format.specs.Mend.{from_good, over_table, mended_below, kinds_differ, is_refused, unmendable, change_of, changes}
use Rattle.format.specs.Mend.{mended_if_room, mend_good, mend_from, mend, after_mend, mended_image, mended_list}
use Rattle.format.specs.declared.Side.TheVariants.{Primary, Redundant}
use Rattle.format.specs.declared.MisplacedPart.TheVariants.{Descriptor}
use Rattle.format.specs.declared.Refusal.TheVariants.{Misplaced, NotMendable, TooLittleRoom}
use Rattle.examples.specs.Images.{with, doubled, differing, small, plain_header}
use Rattle.std.specs.Prelude.{Ok, Err}

pub mended_examples :
    -- the copies are alike
    (mend doubled Primary 0 ≡ Ok 0)
    -- one entry differs, for which three words are needed
    × (mend differing Primary 3 ≡ Ok 1)
    × (mend differing Redundant 3 ≡ Ok 1)
    × (mend differing Primary 2 ≡ Err TooLittleRoom)
    -- 8 comes first: the descriptor has one number that is zero
    × (mend (with 36 8 0 differing) Primary 3 ≡ Err (Misplaced Descriptor))
    -- 40: there is no redundant directory
    × (mend (small 0 0 0 0) Primary 3 ≡ Err NotMendable)
    -- a table in the one directory, 1 in the other
    × (mend (with 1024 4 1 doubled) Primary 3 ≡ Err NotMendable)
    -- one table in both
    × (mend (with 1024 4 3 doubled) Primary 3 ≡ Err NotMendable)
    -- the primary's grain 1 stands on the primary's table, the redundant's is absent; 40 before 21
    × (mend (with 1540 4 4 doubled) Primary 3 ≡ Err NotMendable)
    × (mend (with 1540 4 4 doubled) Primary 0 ≡ Err NotMendable)
    × (mend (with 1540 4 4 doubled) Redundant 3 ≡ Ok 1)
unfolding pick power_up_to le_at le_bytes same_at over zeros rows grains directory_entries directory_sectors kdmv_fields kdmv_fault kdmv_header directory_of header_of unless_fault with_footer judge_kdmv judge_of meaning in_table entry_of_grain grain_sectors any_below if_there named redundant_tables areas runs_past shares shares_any meet misplaced lowest_misplaced lowest_from copy_differs copies_differ unless_grain check_apart check_copies check_grains check_layout check_from from_good over_table mended_below kinds_differ is_refused unmendable change_of mended_if_room mend_good mend_from
mended_examples = (refl, refl, refl, refl, refl, refl, refl, refl, refl, refl, refl)

-- the image and the list after it: grain, old entry, new entry, and a word that keeps its content
pub written_examples :
    (mended_image differing Primary (7 ∷ 7 ∷ 7 ∷ 7 ∷ []) ≡ with 3588 4 1 differing)
    × (mended_image differing Redundant (7 ∷ 7 ∷ 7 ∷ 7 ∷ []) ≡ doubled)
    × (mended_list differing Primary (7 ∷ 7 ∷ 7 ∷ 7 ∷ []) ≡ 1 ∷ 0 ∷ 1 ∷ 7 ∷ [])
    × (mended_list differing Redundant (7 ∷ 7 ∷ 7 ∷ 7 ∷ []) ≡ 1 ∷ 1 ∷ 0 ∷ 7 ∷ [])
    × (mended_image differing Primary (7 ∷ 7 ∷ []) ≡ differing)
    × (mended_list differing Primary (7 ∷ 7 ∷ []) ≡ 7 ∷ 7 ∷ [])
unfolding pick power_up_to le_at le_bytes same_at over zeros rows grains directory_entries directory_sectors kdmv_fields kdmv_fault kdmv_header directory_of header_of unless_fault with_footer judge_kdmv judge_of meaning in_table entry_of_grain grain_sectors any_below if_there named redundant_tables areas runs_past shares shares_any meet misplaced lowest_from copy_differs copies_differ unless_grain check_apart check_copies check_grains check_layout check_from from_good over_table mended_below kinds_differ is_refused unmendable change_of mended_if_room mend_good mend_from after_mend
written_examples = (refl, refl, refl, refl, refl, refl)

-- version 1's story: 80 00 00 00 against 80 00 01 00, which differs behind the zero byte. The list alone, since 128 lies past
-- the end of this image
pub zero_byte_passed : changes (with 1540 4 128 (with 3588 4 0x10080 doubled)) (plain_header 11 1 1 2) ≡ 1 ∷ 0x10080 ∷ 128 ∷ []
unfolding pick le_at le_bytes over zeros rows grains meaning change_of
zero_byte_passed = refl
