-- Entry 1 by kind, version and flag: the story of the damaged table, and a table and a grain that stand at sector 1.
use Prim.Native.Nat.{ℕ, ◌+◌, ◌*◌}
use mathlib.Core.List.{List, [], ◌∷◌, ◌++◌}
use mathlib.Core.Path.{◌≡◌, refl}
use mathlib.Core.Bool.{Bool, true, false}
use Rattle.base.specs.Pick.{pick}
use Rattle.base.specs.Rounding.{power_up_to}
use Rattle.base.specs.Numbers.{le_at, le_bytes}
use Rattle.base.specs.Strings.{same_at}
use Rattle.base.specs.Bytes.{over, zeros}
use Rattle.base.specs.Rows.{rows}
use Rattle.format.specs.Geometry.{grains, directory_entries, directory_sectors}
use Rattle.format.specs.Kdmv.{kdmv_fields, kdmv_fault}
use Rattle.format.specs.Cowd.{cowd_fields, cowd_fault}
use Rattle.format.specs.Header.{kdmv_one_is_zero, kdmv_header, cowd_header, directory_of, header_of, unless_fault, with_footer}
use Rattle.format.specs.Header.{judge_kdmv, kind_gone, judge_cowd, judge_of}
use Rattle.format.specs.Entries.{meaning, in_table, entry_of_grain, grain_sectors, any_below}
use Rattle.format.specs.Areas.{if_there, named, redundant_tables, areas, runs_past, shares, shares_any, meet}
use Rattle.format.specs.Check.{misplaced, lowest_from, copy_differs, copies_differ, unless_grain, check_apart, check_copies}
use Rattle.format.specs.Check.{check_grains, check_layout, check_from, check_of, check}
use Rattle.format.specs.Source.{grain_source, lookup_grain, lookup_entry, lookup_table, lookup_in, lookup_from, sector_lookup}
use Rattle.format.specs.Chain.{unlike}
use Rattle.format.specs.Grains.{upper_unless_absent, grain_from, one_if_stored, stored_below}
use Rattle.format.specs.Layout.{table_count, tables_at, tables_end, sector_v, sectors_laid}
use Rattle.format.specs.Collapse.{if_accepted, written_if_room, normal_from, normal, collapse_from, collapse}
use Rattle.format.specs.declared.Taken.TheVariants.{Either}
use Rattle.format.specs.declared.Source.TheVariants.{Absent, Zero, Stored}
use Rattle.format.specs.declared.Refusal.TheVariants.{Flags, GrainPast, CopiesDiffer, SharedSector}
use Rattle.examples.specs.Images.{joined, with, flagged_sector, cowd_sectors}
use Rattle.std.specs.Prelude.{Ok, Err}
use Rattle.format.specs.AnswerParts.{accepted_as}

-- ---- images, by version and flags
-- the directory at sector 1, the table at 2 with a 1 for grain 0; `long` sectors from 6 on
abbrev damaged : ℕ → ℕ → ℕ → List ℕ
damaged version flags long =
    joined
    (flagged_sector version flags 16 8 1 ∷ le_bytes 4 2 ∷ zeros 508 ∷ le_bytes 4 1 ∷ zeros (2044 + 512 * long) ∷ [])

-- the directory at sector 5 holds a 1, and sectors 1 to 4 are free for a table
abbrev tabled : ℕ → ℕ → List ℕ
tabled version flags = joined (flagged_sector version flags 16 8 5 ∷ zeros 2048 ∷ le_bytes 4 1 ∷ zeros 508 ∷ [])

-- the directory at sector 9, the table at 10 with a 1 for the one grain, and sectors 1 to 8 are free for it
abbrev grained : ℕ → ℕ → List ℕ
grained version flags =
    joined
    (flagged_sector version flags 8 8 9 ∷ zeros 4096 ∷ le_bytes 4 10 ∷ zeros 508 ∷ le_bytes 4 1 ∷ zeros 2044 ∷ [])

-- the directory at sector 9 and the redundant one at 10, with an entry each; sectors 1 to 8 are free for two tables
abbrev copied : ℕ → ℕ → ℕ → ℕ → List ℕ
copied version flags primary redundant =
    joined
    (with 48 8 10 (flagged_sector version flags 16 8 9)
    ∷ zeros 4096
    ∷ le_bytes 4 primary
    ∷ zeros 508
    ∷ le_bytes 4 redundant
    ∷ zeros 508
    ∷ [])

-- COWD at grain size 1: the directory at sector 4, the table at 5 with a 1 for the one grain
abbrev old : List ℕ
old = joined (cowd_sectors 1 1 4 1 ∷ le_bytes 4 5 ∷ zeros 508 ∷ le_bytes 4 1 ∷ zeros 16380 ∷ [])

-- ---- when entry 1 means zeros: both version and flag count
abbrev zero_by : ℕ → ℕ → Bool
zero_by version flags = kdmv_one_is_zero (kdmv_fields (flagged_sector version flags 16 8 1))

pub zeros_by :
    (zero_by 1 1 ≡ false)
    × (zero_by 2 1 ≡ false)
    × (zero_by 3 1 ≡ false)
    × (zero_by 1 5 ≡ false)
    × (zero_by 2 5 ≡ true)
    × (zero_by 3 5 ≡ true)
    × (zero_by 3 4 ≡ true)
    × (zero_by 2 0x10003 ≡ false)
unfolding le_at le_bytes same_at zeros kdmv_fields
zeros_by = (refl, refl, refl, refl, refl, refl, refl, refl)

-- ---- the check
pub damaged_checked :
    -- never zeros in version 1 or without the flag: grain 0 stands on the directory, or runs past F
    (check (damaged 1 1 4) ≡ Err SharedSector)
    × (check (damaged 1 1 2) ≡ Err (GrainPast 0))
    × (check (damaged 2 1 4) ≡ Err SharedSector)
    × (check (damaged 3 1 4) ≡ Err SharedSector)
    -- zeros, and 5 for the flag in version 1
    × (check (damaged 2 5 0) ≡ accepted_as 16 8)
    × (check (damaged 3 5 0) ≡ accepted_as 16 8)
    × (check (damaged 1 5 0) ≡ Err Flags)
unfolding pick power_up_to le_at le_bytes same_at zeros rows grains directory_entries directory_sectors kdmv_fields kdmv_fault kdmv_header directory_of unless_fault with_footer judge_kdmv judge_of meaning in_table entry_of_grain grain_sectors if_there named redundant_tables areas runs_past shares shares_any meet misplaced lowest_from copies_differ unless_grain check_apart check_copies check_grains check_layout check_from
damaged_checked = (refl, refl, refl, refl, refl, refl, refl)

pub at_one_checked :
    (check (tabled 1 1) ≡ accepted_as 16 8)
    × (check (grained 1 1) ≡ accepted_as 8 8)
    × (check (grained 3 1) ≡ accepted_as 8 8)
unfolding pick power_up_to le_at le_bytes same_at zeros rows grains directory_entries directory_sectors kdmv_fields kdmv_fault kdmv_header directory_of unless_fault with_footer judge_kdmv judge_of meaning in_table entry_of_grain grain_sectors if_there named redundant_tables areas runs_past shares shares_any meet misplaced lowest_from copies_differ unless_grain check_apart check_copies check_grains check_layout check_from
at_one_checked = (refl, refl, refl)

-- in COWD, by the check that the moves keep: sector 1 is the header's
pub old_checked : check_of Either old ≡ Err SharedSector
unfolding pick power_up_to le_at le_bytes same_at zeros rows grains directory_entries directory_sectors cowd_fields cowd_fault cowd_header unless_fault kind_gone judge_cowd judge_of meaning in_table entry_of_grain grain_sectors if_there named redundant_tables areas runs_past shares shares_any meet misplaced lowest_from copies_differ unless_grain check_apart check_copies check_grains check_layout check_from
old_checked = refl

-- ---- 11 goes by meaning
pub copies_checked :
    -- tables at 1 and at 5, both of absent grains; at 1 and at 2 they meet; a 0 names none
    (check (copied 1 1 1 5) ≡ accepted_as 16 8)
    × (check (copied 1 1 5 1) ≡ accepted_as 16 8)
    × (check (copied 1 1 1 2) ≡ Err SharedSector)
    × (check (copied 1 1 1 0) ≡ Err CopiesDiffer)
    -- zeros in both, or in one alone
    × (check (copied 2 5 1 1) ≡ accepted_as 16 8)
    × (check (copied 2 5 1 5) ≡ Err CopiesDiffer)
    × (check (copied 2 5 5 1) ≡ Err CopiesDiffer)
    -- the tables at 1 and 5 differ in grain 1: it is absent, and at 11
    × (check (with 2564 4 11 (copied 1 1 1 5) ++ zeros 4096) ≡ Err CopiesDiffer)
unfolding pick power_up_to le_at le_bytes same_at over zeros rows grains directory_entries directory_sectors kdmv_fields kdmv_fault kdmv_header directory_of unless_fault with_footer judge_kdmv judge_of meaning in_table entry_of_grain grain_sectors any_below if_there named redundant_tables areas runs_past shares shares_any meet misplaced lowest_from copy_differs copies_differ unless_grain check_apart check_copies check_grains check_layout check_from
copies_checked = (refl, refl, refl, refl, refl, refl, refl, refl)

-- ---- the lookup: sector 1 + o, an entry of the table at sector 1, and zeros
pub one_looked :
    (sector_lookup (damaged 1 1 4) 7 ≡ Ok (Stored 8))
    × (sector_lookup (grained 1 1) 0 ≡ Ok (Stored 1))
    × (sector_lookup (tabled 1 1) 0 ≡ Ok Absent)
    × (sector_lookup (damaged 2 5 4) 7 ≡ Ok Zero)
    × (sector_lookup (grained 2 5) 0 ≡ Ok Zero)
    × (sector_lookup (tabled 3 5) 0 ≡ Ok Zero)
unfolding pick power_up_to le_at le_bytes same_at zeros directory_entries directory_sectors kdmv_fields kdmv_fault kdmv_header directory_of unless_fault with_footer judge_kdmv judge_of meaning grain_sectors grain_source lookup_grain lookup_entry lookup_table lookup_in lookup_from
one_looked = (refl, refl, refl, refl, refl, refl)

-- ---- collapse: a grain at sector 1 is copied, a zero one is not, whichever layer has it
pub one_collapsed :
    (normal (grained 1 1) 8192 ≡ Ok 8192)
    × (normal (grained 2 5) 8192 ≡ Ok 4096)
    × (collapse (grained 2 5) (grained 1 1) 8192 ≡ Ok 8192)
    × (collapse (grained 1 1) (grained 2 5) 8192 ≡ Ok 4096)
unfolding pick power_up_to le_at le_bytes same_at zeros rows grains directory_entries directory_sectors kdmv_fields kdmv_fault kdmv_header directory_of header_of unless_fault with_footer judge_kdmv judge_of meaning in_table entry_of_grain grain_sectors if_there named redundant_tables areas runs_past shares shares_any meet misplaced lowest_from copies_differ unless_grain check_apart check_copies check_grains check_layout check_from grain_from one_if_stored stored_below table_count tables_at tables_end sector_v sectors_laid if_accepted written_if_room normal_from upper_unless_absent unlike collapse_from
one_collapsed = (refl, refl, refl, refl)
