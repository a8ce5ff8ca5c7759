-- The rules are no empty promise: a KDMV image keeps them all, and a COWD one those of its kind.
use Prim.Native.Nat.{ℕ}
use mathlib.Core.Path.{◌≡◌, refl}
use mathlib.Core.List.{List, ◌++◌}
use Rattle.base.specs.Pick.{pick}
use Rattle.base.specs.Rounding.{power_up_to}
use Rattle.base.specs.Numbers.{le_at, le_bytes}
use Rattle.base.specs.Strings.{same_at}
use Rattle.base.specs.Bytes.{zeros}
use Rattle.base.specs.Rows.{rows}
use Rattle.format.specs.Geometry.{grains, directory_entries, directory_sectors}
use Rattle.format.specs.Kdmv.{kdmv_fields, kdmv_fault}
use Rattle.format.specs.Cowd.{cowd_fields, cowd_fault}
use Rattle.format.specs.Header.{kdmv_header, cowd_header, directory_of, unless_fault, with_footer, judge_kdmv, kind_gone}
use Rattle.format.specs.Header.{judge_cowd, judge_of}
use Rattle.format.specs.Entries.{meaning, in_table, entry_of_grain, grain_sectors, any_below}
use Rattle.format.specs.Areas.{if_there, named, redundant_tables, areas, runs_past, shares, shares_any, meet}
use Rattle.format.specs.Check.{misplaced, lowest_from, copies_differ, unless_grain, check_apart, check_copies, check_grains}
use Rattle.format.specs.Check.{check_layout, check_from, check_of, check}
use Rattle.format.specs.Accepted.{AcceptedKdmv, Accepted}
use Rattle.format.specs.declared.Taken.TheVariants.{Either}
use Rattle.examples.specs.Images.{cowd_sectors, small}
use Rattle.laws.proofs.AcceptedImage.{accepted_sound, either_sound}
use Rattle.format.specs.AnswerParts.{accepted_as}

-- capacity 16, grain size 8, grain 0 stored at sector 8
kdmv_check : check (small 8 0 0 10) ≡ accepted_as 16 8
unfolding pick power_up_to le_at le_bytes same_at zeros rows grains directory_entries directory_sectors kdmv_fields kdmv_fault kdmv_header directory_of unless_fault with_footer judge_kdmv judge_of meaning in_table entry_of_grain grain_sectors any_below if_there named redundant_tables areas runs_past shares shares_any meet misplaced lowest_from copies_differ unless_grain check_apart check_copies check_grains check_layout check_from
kdmv_check = refl

pub kdmv_accepted : AcceptedKdmv (small 8 0 0 10)
kdmv_accepted = (accepted_sound (small 8 0 0 10) 16 8 kdmv_check).0

-- capacity 1, grain size 1, the one grain absent: the directory at sector 4 holds a 0
abbrev pub cowd_small : List ℕ
cowd_small = cowd_sectors 1 1 4 1 ++ zeros 512

cowd_check : check_of Either cowd_small ≡ accepted_as 1 1
unfolding pick power_up_to le_at le_bytes same_at zeros rows grains directory_entries directory_sectors cowd_fields cowd_fault cowd_header unless_fault kind_gone judge_cowd judge_of meaning in_table entry_of_grain grain_sectors any_below if_there named redundant_tables areas runs_past shares shares_any meet misplaced lowest_from copies_differ unless_grain check_apart check_copies check_grains check_layout check_from
cowd_check = refl

pub cowd_accepted : Accepted cowd_small
cowd_accepted = (either_sound cowd_small 1 1 cowd_check).0
