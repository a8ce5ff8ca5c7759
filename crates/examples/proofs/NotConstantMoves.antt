-- No constant answer meets the contract of a move: for each there are two inputs whose answers differ, one of them a refusal
-- and the other not.
use Prim.Native.Nat.{ℕ}
use mathlib.Core.Path.{◌≡◌, refl}
use mathlib.Core.List.{List}
use native.Mathlib.Omega.{arith}
use Rattle.base.specs.Pick.{pick}
use Rattle.base.specs.Rounding.{power_up_to}
use Rattle.base.specs.Numbers.{le_at, le_bytes}
use Rattle.base.specs.Strings.{same_at}
use Rattle.base.specs.Bytes.{zeros}
use Rattle.base.specs.Rows.{rows}
use Rattle.format.specs.Geometry.{grains, directory_entries, directory_sectors}
use Rattle.format.specs.Kdmv.{kdmv_fields, kdmv_fault}
use Rattle.format.specs.Cowd.{cowd_fields, cowd_fault}
use Rattle.format.specs.Header.{kdmv_header, cowd_header, directory_of, header_of, unless_fault, with_footer, judge_kdmv}
use Rattle.format.specs.Header.{judge_cowd}
use Rattle.format.specs.Header.{kind_gone, judge_of}
use Rattle.format.specs.Entries.{meaning, in_table, entry_of_grain, any_below}
use Rattle.format.specs.Areas.{if_there, named, redundant_tables, areas, runs_past, shares, shares_any, meet}
use Rattle.format.specs.Check.{misplaced, lowest_from, copies_differ, unless_grain, check_apart, check_copies, check_grains}
use Rattle.format.specs.Check.{check_layout, check_from}
use Rattle.format.specs.Grains.{grain_from, one_if_stored, stored_below}
use Rattle.format.specs.Layout.{table_count, tables_at, tables_end, sector_v, sectors_laid}
use Rattle.format.specs.Collapse.{if_accepted, written_if_room}
use Rattle.format.specs.Moves.{says_zero, move_from, to_kdmv, to_cowd}
use Rattle.format.specs.Answers.{written}
use Rattle.format.specs.declared.numbers.Written.{Written}
use Rattle.examples.specs.Images.{small, small_cowd}
use Rattle.examples.proofs.NotConstant.{differ}

-- eight sectors are written, for which there is room
pub to_kdmv_varies : (r : Written) → ((s : List ℕ) (room : ℕ) → r ≡ written (to_kdmv s room)) → ⊥
unfolding pick power_up_to le_at le_bytes same_at zeros grains directory_entries directory_sectors cowd_fields cowd_fault cowd_header unless_fault kind_gone judge_cowd judge_of rows meaning in_table entry_of_grain if_there named redundant_tables areas runs_past shares shares_any meet misplaced lowest_from copies_differ unless_grain check_apart check_copies check_grains check_layout check_from header_of grain_from one_if_stored stored_below table_count tables_at tables_end sector_v sectors_laid if_accepted written_if_room move_from
to_kdmv_varies r same =
    differ (λ s. written (to_kdmv s 4096)) (λ (v : Written). v.length) small_cowd 4096 (omega arith) refl refl r
    (λ s. same s 4096)

-- header, directory and one table of 32 sectors
pub to_cowd_varies : (r : Written) → ((s : List ℕ) (room : ℕ) → r ≡ written (to_cowd s room)) → ⊥
unfolding pick power_up_to le_at le_bytes same_at zeros grains directory_entries directory_sectors kdmv_fields kdmv_fault kdmv_header directory_of unless_fault with_footer judge_kdmv judge_of rows meaning in_table entry_of_grain any_below if_there named redundant_tables areas runs_past shares shares_any meet misplaced lowest_from copies_differ unless_grain check_apart check_copies check_grains check_layout check_from header_of grain_from one_if_stored stored_below table_count tables_at tables_end sector_v sectors_laid if_accepted written_if_room says_zero move_from
to_cowd_varies r same =
    differ (λ s. written (to_cowd s 18944)) (λ (v : Written). v.length) (small 0 0 0 0) 18944 (omega arith) refl refl r
    (λ s. same s 18944)
