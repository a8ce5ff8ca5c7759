-- The check on images with no sector left over: refusals 8 to 12 on both sides of each edge, and the areas. The header of each
-- image is written out, since antt would read it anew wherever the check uses it.
use Prim.Native.Nat.{ℕ}
use mathlib.Core.List.{List, [], ◌∷◌, ◌++◌}
use mathlib.Core.Path.{◌≡◌, refl, ap}
use mathlib.Core.Bool.{Bool, true, false}
use native.Mathlib.Omega.{arith}
use Rattle.base.specs.Pick.{pick}
use Rattle.base.specs.Rounding.{power_up_to}
use Rattle.base.specs.Numbers.{le_at, le_bytes}
use Rattle.base.specs.Strings.{same_at}
use Rattle.base.specs.Bytes.{over, zeros}
use Rattle.base.specs.Rows.{rows}
use Rattle.format.specs.Geometry.{grains, directory_entries, directory_sectors}
use Rattle.format.specs.Kdmv.{kdmv_fields, kdmv_fault}
use Rattle.format.specs.Header.{kdmv_header, directory_of, header_of, unless_fault, with_footer, judge_kdmv, judge_of, judge}
use Rattle.format.specs.Entries.{meaning, in_table, entry_of_grain, entries_in_use, grain_sectors, marker_broken, any_below}
use Rattle.format.specs.Areas.{Area, area, if_there, named, header_area, descriptor_area, directory_area, redundant_area}
use Rattle.format.specs.Areas.{primary_tables, redundant_tables, footer_area, last_area, areas, runs_past, shares, shares_any}
use Rattle.format.specs.Areas.{meet}
use Rattle.format.specs.Check.{descriptor_misplaced, directory_misplaced, redundant_directory_misplaced, misplaced}
use Rattle.format.specs.Check.{lowest_misplaced}
use Rattle.format.specs.Check.{lowest_from, marker_broken_at, copy_differs, copies_differ, unless_grain, check_apart}
use Rattle.format.specs.Check.{check_copies, check_grains, check_layout, check_from, check}
use Rattle.format.specs.Accepted.{FooterRules}
use Rattle.format.specs.declared.Header.{Header}
use Rattle.format.specs.declared.Entry.TheVariants.{Absent, Zero, Sector}
use Rattle.format.specs.declared.MisplacedPart.{MisplacedPart}
use Rattle.format.specs.declared.MisplacedPart.TheVariants.{Descriptor, Directory, RedundantDirectory}
use Rattle.format.specs.declared.MisplacedPart.TheVariants.{PrimaryTable, RedundantTable}
use Rattle.format.specs.declared.Refusal.TheVariants.{Misplaced, GrainPast, Marker, CopiesDiffer, SharedSector}
use Rattle.examples.specs.Examples.{Example, example, Hold}
use Rattle.examples.specs.Images.{with, kdmv_sector, packed, doubled, plain_header, stream_header}
use Rattle.format.proofs.HeaderFooter.{kept_footer}
use Rattle.std.specs.Prelude.{Ok, Err}
use Rattle.format.specs.AnswerParts.{accepted_as}

-- the check of an image whose header is known
checked : (s : List ℕ) (h : Header) → judge s ≡ Ok h → check s ≡ check_layout s h
unfolding check_from
checked s h e = ap (check_from s) e

-- ---- streams
module _ (first size next next_size : ℕ) where
  footer_kept : FooterRules (packed first size next next_size)
  unfolding le_at le_bytes over zeros
  footer_kept =
      record { multiple = refl; long = omega arith; front = refl; back = refl; last = refl; directory = λ e. omega (arith, e) }

  pub packed_known : judge (packed first size next next_size) ≡ Ok (stream_header 1)
  unfolding pick power_up_to le_at le_bytes same_at over zeros directory_entries directory_sectors kdmv_fields kdmv_fault kdmv_header directory_of unless_fault with_footer judge_kdmv judge_of
  packed_known = rw (kept_footer _ footer_kept)

  packed_check : check (packed first size next next_size) ≡ check_layout (packed first size next next_size) (stream_header 1)
  packed_check = checked _ _ packed_known

pub streams_checked :
    (check (packed 0 500 8 501) ≡ accepted_as 16 8)
    -- 12: grain 0 takes two sectors
    × (check (packed 0 501 8 501) ≡ Err SharedSector)
    -- 10: a size of 0, another first sector; the lowest grain
    × (check (packed 0 0 8 501) ≡ Err (Marker 0))
    × (check (packed 0 500 7 501) ≡ Err (Marker 1))
    × (check (packed 1 500 7 501) ≡ Err (Marker 0))
    -- 9 comes first: grain 1 past F by one byte, and not past it
    × (check (packed 1 500 8 2549) ≡ Err (GrainPast 1))
    × (check (packed 1 500 8 2548) ≡ Err (Marker 0))
unfolding pick le_at le_bytes over zeros rows grains directory_entries meaning in_table entry_of_grain grain_sectors marker_broken if_there named redundant_tables areas runs_past shares shares_any meet misplaced lowest_from marker_broken_at copies_differ unless_grain check_apart check_copies check_grains check_layout
streams_checked = (
  packed_check 0 500 8 501,
  packed_check 0 501 8 501,
  packed_check 0 0 8 501,
  packed_check 0 500 7 501,
  packed_check 1 500 7 501,
  packed_check 1 500 8 2549,
  packed_check 1 500 8 2548,
)

-- ---- two directories
pub copies_checked :
    (check doubled ≡ accepted_as 16 8)
    -- 8: a table of either past F
    × (check (with 512 4 9 doubled) ≡ Err (Misplaced PrimaryTable))
    × (check (with 1024 4 9 doubled) ≡ Err (Misplaced RedundantTable))
    × (check (with 512 4 9 (with 1024 4 9 doubled)) ≡ Err (Misplaced PrimaryTable))
    -- 9: grain 1 past F, before 11
    × (check (with 1540 4 5 doubled) ≡ Err (GrainPast 1))
    -- 11: the copies differ in grain 1, before 12; the next entry is not in use
    × (check (with 1540 4 2 doubled) ≡ Err CopiesDiffer)
    × (check (with 1544 4 2 doubled) ≡ accepted_as 16 8)
    -- 12: grain 1 on the tables and the descriptor
    × (check (with 1540 4 4 (with 3588 4 4 doubled)) ≡ Err SharedSector)
unfolding pick power_up_to le_at le_bytes same_at over zeros rows grains directory_entries directory_sectors kdmv_fields kdmv_fault kdmv_header directory_of unless_fault with_footer judge_kdmv judge_of meaning in_table entry_of_grain grain_sectors any_below if_there named redundant_tables areas runs_past shares shares_any meet misplaced lowest_misplaced lowest_from copy_differs copies_differ unless_grain check_apart check_copies check_grains check_layout
copies_checked =
    let h = plain_header 11 1 1 2 in (
      checked doubled h refl,
      checked (with 512 4 9 doubled) h refl,
      checked (with 1024 4 9 doubled) h refl,
      checked (with 512 4 9 (with 1024 4 9 doubled)) h refl,
      checked (with 1540 4 5 doubled) h refl,
      checked (with 1540 4 2 doubled) h refl,
      checked (with 1544 4 2 doubled) h refl,
      checked (with 1540 4 4 (with 3588 4 4 doubled)) h refl,
    )

-- ---- parts of the rules
-- a packed grain's marker at sector 0
abbrev marker : ℕ → ℕ → List ℕ
marker first size = le_bytes 8 first ++ le_bytes 4 size

abbrev tests : List (Example Bool)
tests =
    -- 8, where F is 12: the descriptor's numbers are both zero or both not, and the descriptor is not past F
    example (descriptor_misplaced 12 (plain_header 0 0 1 2)) false
    ∷ example (descriptor_misplaced 12 (plain_header 0 1 1 2)) true
    ∷ example (descriptor_misplaced 12 (plain_header 11 0 1 2)) true
    ∷ example (descriptor_misplaced 12 (plain_header 11 1 1 2)) false
    ∷ example (descriptor_misplaced 12 (plain_header 11 2 1 2)) true
    ∷ example (descriptor_misplaced 12 (plain_header 0xffffffffffffffff 1 1 2)) true
    -- directory sector 0, the directory past F, the redundant one past F or none
    ∷ example (directory_misplaced 12 (plain_header 0 0 0 2)) true
    ∷ example (directory_misplaced 12 (plain_header 0 0 11 2)) false
    ∷ example (directory_misplaced 12 (plain_header 0 0 12 2)) true
    ∷ example (redundant_directory_misplaced 12 (plain_header 0 0 1 11)) false
    ∷ example (redundant_directory_misplaced 12 (plain_header 0 0 1 12)) true
    ∷ example (redundant_directory_misplaced 0 (plain_header 0 0 1 0)) false
    -- 10: the size and the first number, grain 3 beginning at sector 24
    ∷ example (marker_broken (marker 24 1) 8 3 0) false
    ∷ example (marker_broken (marker 24 0) 8 3 0) true
    ∷ example (marker_broken (marker 0x100000000000018 1) 8 3 0) true
    -- 11: absent and zero stand exactly where they stand in the other directory
    ∷ example (copy_differs [] 1 Absent Absent) false
    ∷ example (copy_differs [] 1 Absent Zero) true
    ∷ example (copy_differs [] 1 Absent (Sector 2)) true
    ∷ example (copy_differs [] 1 Zero Absent) true
    ∷ example (copy_differs [] 1 Zero Zero) false
    ∷ example (copy_differs [] 1 Zero (Sector 2)) true
    ∷ example (copy_differs [] 1 (Sector 2) Absent) true
    ∷ example (copy_differs [] 1 (Sector 2) Zero) true
    ∷ example (copy_differs [] 1 (Sector 2) (Sector 3)) false
    ∷ []

pub tests_hold : Hold tests
unfolding pick le_at le_bytes marker_broken any_below if_there runs_past copy_differs
tests_hold = refl

-- 8 names the lowest part: one number of the descriptor zero comes before directory sector 0, and that before a redundant
-- directory past F
abbrev lowest : List (Example MisplacedPart)
lowest =
    example (lowest_misplaced doubled (plain_header 0 1 0 12)) Descriptor
    ∷ example (lowest_misplaced doubled (plain_header 11 0 0 12)) Descriptor
    ∷ example (lowest_misplaced doubled (plain_header 11 1 0 12)) Directory
    ∷ example (lowest_misplaced doubled (plain_header 11 1 1 12)) RedundantDirectory
    ∷ []

pub lowest_named : Hold lowest
unfolding pick le_at le_bytes over zeros if_there runs_past lowest_misplaced
lowest_named = refl

-- 513 grains of 8 sectors: 512 entries of table 0 are in use, and one of table 1
abbrev counts : List (Example ℕ)
counts =
    example (entries_in_use (header_of (kdmv_sector 4104 8 1)) 0) 512
    ∷ example (entries_in_use (header_of (kdmv_sector 4104 8 1)) 1) 1
    ∷ example (entries_in_use (header_of (kdmv_sector 4104 8 1)) 2) 0
    ∷ []

pub counts_hold : Hold counts
unfolding pick le_at le_bytes same_at zeros grains kdmv_fields kdmv_header directory_of header_of
counts_hold = refl

-- ---- areas
abbrev listed : List (Example (List Area))
listed =
    example (header_area (stream_header 1)) (area 0 1 ∷ [])
    ∷ example (descriptor_area (stream_header 1)) (area 9 1 ∷ [])
    ∷ example (descriptor_area (plain_header 0 0 1 2)) []
    ∷ example (directory_area (plain_header 0 0 7 2)) (area 7 1 ∷ [])
    ∷ example (redundant_area (plain_header 0 0 1 2)) (area 2 1 ∷ [])
    ∷ example (redundant_area (plain_header 0 0 1 0)) []
    -- the footer is F-2 and the last sector F-1, where there is a footer
    ∷ example (footer_area (zeros 2560) (stream_header 1)) (area 3 1 ∷ [])
    ∷ example (last_area (zeros 2560) (stream_header 1)) (area 4 1 ∷ [])
    ∷ example (footer_area (zeros 2560) (plain_header 0 0 1 0) ++ last_area (zeros 2560) (plain_header 0 0 1 0)) []
    -- a table takes 4 sectors; entries 0 and 1 name none where 1 means zeros
    ∷ example (primary_tables (zeros 512 ++ le_bytes 4 7) (plain_header 0 0 1 0)) (area 7 4 ∷ [])
    ∷ example (primary_tables (zeros 512 ++ le_bytes 4 1) (plain_header 0 0 1 0)) []
    ∷ example (redundant_tables (zeros 512 ++ le_bytes 4 7) (plain_header 0 0 2 1)) (area 7 4 ∷ [])
    ∷ example (redundant_tables (le_bytes 4 7) (plain_header 0 0 2 0)) []
    -- a stored grain takes its size; a packed one 12 bytes and its own: with 500 one sector, with 501 two
    ∷ example (named (grain_sectors [] false 8) (Sector 9)) (area 9 8 ∷ [])
    ∷ example (named (grain_sectors (marker 0 500) true 8) (Sector 0)) (area 0 1 ∷ [])
    ∷ example (named (grain_sectors (marker 0 501) true 8) (Sector 0)) (area 0 2 ∷ [])
    ∷ example (named (grain_sectors (marker 0 0x1000000) true 8) (Sector 0)) (area 0 32769 ∷ [])
    ∷ []

pub areas_listed : Hold listed
unfolding pick le_at le_bytes zeros rows directory_entries meaning grain_sectors if_there named redundant_tables
areas_listed = refl
