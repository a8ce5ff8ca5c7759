-- The full check: refusals 8 to 12, each over the whole image, in their order after 1 to 7.
use Rattle.std.specs.Prelude.{ℕ, zero, suc, ◌+◌, List, Bool, true, false, not, ◌&&◌, ◌||◌, eqb}
use Rattle.base.specs.Pick.{pick}
use Rattle.format.specs.Geometry.{file_sectors}
use Rattle.format.specs.Header.{grains_of, directory_entries_of, judge_of}
use Rattle.format.specs.Entries.{entry_at, meaning_at, grain_entry, entries_in_use, marker_broken, any_below}
use Rattle.format.specs.Areas.{area, redundant_area, primary_tables, redundant_tables, grain_area, areas, ends_past, runs_past}
use Rattle.format.specs.Areas.{meet}
use Rattle.format.specs.declared.Header.{Header}
use Rattle.format.specs.declared.Entry.{Entry}
use Rattle.format.specs.declared.Entry.TheVariants.{Absent, Zero, Sector}
use Rattle.format.specs.declared.MisplacedPart.{MisplacedPart}
use Rattle.format.specs.declared.MisplacedPart.TheVariants.{Descriptor, Directory, RedundantDirectory}
use Rattle.format.specs.declared.MisplacedPart.TheVariants.{PrimaryTable, RedundantTable}
use Rattle.format.specs.declared.Taken.{Taken}
use Rattle.format.specs.declared.Taken.TheVariants.{KdmvAlone}
use Rattle.format.specs.declared.Refusal.{Refusal}
use Rattle.format.specs.declared.Refusal.TheVariants.{Misplaced, GrainPast, Marker, CopiesDiffer, SharedSector}
use Rattle.std.specs.Prelude.{Result, Ok, Err, Option, Some, None}
use Rattle.format.specs.declared.Shape.{Shape}
use Rattle.format.specs.AnswerParts.{accepted_as}

-- ---- 8, part by part, in the order of their places
-- one descriptor number zero and one not, or the descriptor past F
abbrev pub descriptor_misplaced : ℕ → Header → Bool
descriptor_misplaced f h =
    (eqb h.descriptor 0 && not (eqb h.descriptor_sectors 0))
    || ((not (eqb h.descriptor 0) && eqb h.descriptor_sectors 0)
    || ends_past f (area h.descriptor h.descriptor_sectors))

-- directory sector 0, or the directory past F
abbrev pub directory_misplaced : ℕ → Header → Bool
directory_misplaced f h = eqb h.directory 0 || ends_past f (area h.directory h.directory_sectors)

-- the redundant directory past F
abbrev pub redundant_directory_misplaced : ℕ → Header → Bool
redundant_directory_misplaced f h = runs_past f (redundant_area h)

-- a table of either past F
abbrev pub primary_tables_misplaced : List ℕ → Header → Bool
primary_tables_misplaced s h = runs_past (file_sectors s) (primary_tables s h)

abbrev pub redundant_tables_misplaced : List ℕ → Header → Bool
redundant_tables_misplaced s h = runs_past (file_sectors s) (redundant_tables s h)

unfoldable pub misplaced : List ℕ → Header → Bool
misplaced s h =
    pick (descriptor_misplaced (file_sectors s) h) true
    (pick (directory_misplaced (file_sectors s) h) true
    (pick (redundant_directory_misplaced (file_sectors s) h) true
    (pick (primary_tables_misplaced s h) true (redundant_tables_misplaced s h))))

-- its place (request A8): where a part is misplaced, the lowest one that is
unfoldable pub lowest_misplaced : List ℕ → Header → MisplacedPart
lowest_misplaced s h =
    pick (descriptor_misplaced (file_sectors s) h) Descriptor
    (pick (directory_misplaced (file_sectors s) h) Directory
    (pick (redundant_directory_misplaced (file_sectors s) h) RedundantDirectory
    (pick (primary_tables_misplaced s h) PrimaryTable RedundantTable)))

-- ---- 9 and 10, with the lowest grain number
-- the first of the n grains from g on that is broken
unfoldable pub lowest_from : (ℕ → Bool) → ℕ → ℕ → Option ℕ
lowest_from broken g zero = None
lowest_from broken g (suc n) = let later = lowest_from broken (g + 1) n in pick (broken g) (Some g) later

-- 9: a grain past F. A packed grain takes a sector at least: one whose marker is not below F is past F, whatever is read there
abbrev pub grain_past : List ℕ → Header → ℕ → Bool
grain_past s h g = runs_past (file_sectors s) (grain_area s h g)

-- 10: a packed grain's size or first sector
unfoldable pub marker_broken_at : List ℕ → ℕ → ℕ → Entry → Bool
marker_broken_at s grain_size g Absent = false
marker_broken_at s grain_size g Zero = false
marker_broken_at s grain_size g (Sector e) = marker_broken s grain_size g e

abbrev pub bad_marker : List ℕ → Header → ℕ → Bool
bad_marker s h g = h.packed && marker_broken_at s h.grain_size g (grain_entry s h g)

abbrev pub lowest_past : List ℕ → Header → Option ℕ
lowest_past s h = lowest_from (grain_past s h) 0 (grains_of h)

abbrev pub lowest_bad_marker : List ℕ → Header → Option ℕ
lowest_bad_marker s h = lowest_from (bad_marker s h) 0 (grains_of h)

-- ---- 11: copies differ
-- the n entries of two tables differ somewhere
abbrev pub tables_differ : List ℕ → ℕ → ℕ → ℕ → Bool
tables_differ s t u n = any_below (λ k. not (eqb (entry_at s t k) (entry_at s u k))) n

-- two directory entries, by meaning: absent and zero stand where they stand in the other, and tables are equal in the n entries
-- in use
unfoldable pub copy_differs : List ℕ → ℕ → Entry → Entry → Bool
copy_differs s n Absent Absent = false
copy_differs s n Absent Zero = true
copy_differs s n Absent (Sector u) = true
copy_differs s n Zero Absent = true
copy_differs s n Zero Zero = false
copy_differs s n Zero (Sector u) = true
copy_differs s n (Sector t) Absent = true
copy_differs s n (Sector t) Zero = true
copy_differs s n (Sector t) (Sector u) = tables_differ s t u n

abbrev pub entry_differs : List ℕ → Header → ℕ → Bool
entry_differs s h d =
    copy_differs s (entries_in_use h d) (meaning_at s h.one_is_zero h.directory d)
    (meaning_at s h.one_is_zero h.redundant d)

unfoldable pub copies_differ : List ℕ → Header → Bool
copies_differ s h = pick (eqb h.redundant 0) false (any_below (entry_differs s h) (directory_entries_of h))

-- ---- 8 to 12 in their order
unfoldable pub unless_grain : Option ℕ → (ℕ → Refusal) → Result Shape Refusal → Result Shape Refusal
unless_grain None refusal a = a
unless_grain (Some g) refusal a = Err (refusal g)

-- 12 comes last: a sector in two areas
unfoldable pub check_apart : List ℕ → Header → Result Shape Refusal
check_apart s h = pick (meet (areas s h)) (Err SharedSector) (accepted_as h.capacity h.grain_size)

unfoldable pub check_copies : List ℕ → Header → Result Shape Refusal
check_copies s h = pick (copies_differ s h) (Err CopiesDiffer) (check_apart s h)

unfoldable pub check_grains : List ℕ → Header → Result Shape Refusal
check_grains s h = unless_grain (lowest_past s h) GrainPast (unless_grain (lowest_bad_marker s h) Marker (check_copies s h))

unfoldable pub check_layout : List ℕ → Header → Result Shape Refusal
check_layout s h = pick (misplaced s h) (Err (Misplaced (lowest_misplaced s h))) (check_grains s h)

unfoldable pub check_from : List ℕ → Result Header Refusal → Result Shape Refusal
check_from s (Err r) = Err r
check_from s (Ok h) = check_layout s h

abbrev pub check_of : Taken → List ℕ → Result Shape Refusal
check_of taken s = check_from s (judge_of taken s)

-- every call but the moves takes KDMV alone
abbrev pub check : List ℕ → Result Shape Refusal
check s = check_of KdmvAlone s
