-- Mending one directory's tables from the other's (request A7). The caller names the good side; every entry in use of the
-- other side's tables is overwritten with the good side's.
use Rattle.std.specs.Prelude.{ℕ, zero, suc, ◌*◌, ◌/◌, ◌%◌, List, [], ◌∷◌, ◌++◌, Bool, true, false, ltb, eqb, length}
use Rattle.base.specs.Pick.{pick}
use Rattle.base.specs.Bytes.{over}
use Rattle.base.specs.Rows.{rows}
use Rattle.format.specs.Geometry.{bytes_at}
use Rattle.format.specs.Header.{grains_of, directory_entries_of, header_of, judge}
use Rattle.format.specs.Entries.{entry_at, meaning_at, entries_in_use, any_below}
use Rattle.format.specs.Areas.{Area, header_area, directory_area, redundant_area, primary_tables, redundant_tables, footer_area}
use Rattle.format.specs.Areas.{meet}
use Rattle.format.specs.Check.{misplaced, lowest_misplaced, check}
use Rattle.format.specs.declared.Header.{Header}
use Rattle.format.specs.declared.Side.{Side}
use Rattle.format.specs.declared.Side.TheVariants.{Primary, Redundant}
use Rattle.format.specs.declared.Entry.{Entry}
use Rattle.format.specs.declared.Entry.TheVariants.{Absent, Zero, Sector}
use Rattle.format.specs.declared.Refusal.TheVariants.{Misplaced, NotMendable, TooLittleRoom}
use Rattle.std.specs.Prelude.{Result, Ok, Err}
use Rattle.format.specs.declared.Shape.{Shape}
use Rattle.format.specs.declared.Refusal.{Refusal}

-- ---- the sides
-- a header as read from the good side: its directory is the good one, and its redundant directory the other
unfoldable pub from_good : Side → Header → Header
from_good Primary h = h
from_good Redundant h =
    record {
      cowd = h.cowd;
      capacity = h.capacity;
      grain_size = h.grain_size;
      header_sectors = h.header_sectors;
      descriptor = h.descriptor;
      descriptor_sectors = h.descriptor_sectors;
      directory = h.redundant;
      directory_sectors = h.directory_sectors;
      redundant = h.directory;
      entries_per_table = h.entries_per_table;
      table_sectors = h.table_sectors;
      one_is_zero = h.one_is_zero;
      packed = h.packed;
      footer = h.footer;
      dirty = h.dirty;
    }

-- what entry d of the good directory and of the other one mean. In all that follows g is a header as read from the good side,
-- and no grain as elsewhere: primary_tables s g are the good side's, redundant_tables s g the other's
abbrev pub good_entry : List ℕ → Header → ℕ → Entry
good_entry s g d = meaning_at s g.one_is_zero g.directory d

abbrev pub other_entry : List ℕ → Header → ℕ → Entry
other_entry s g d = meaning_at s g.one_is_zero g.redundant d

-- ---- the changed image
-- m with the n entries in use of the good side's table, as s has them, over the other side's
unfoldable pub over_table : List ℕ → ℕ → Entry → Entry → List ℕ → List ℕ
over_table s n (Sector t) (Sector u) m = over m (512 * u) (bytes_at s (512 * t) (4 * n))
over_table s n (Sector t) Absent m = m
over_table s n (Sector t) Zero m = m
over_table s n Absent u m = m
over_table s n Zero u m = m

-- so for the tables of the first d directory entries, and for all. The good side is read from s, never from what was written
unfoldable pub mended_below : List ℕ → Header → ℕ → List ℕ
mended_below s g zero = s
mended_below s g (suc d) = over_table s (entries_in_use g d) (good_entry s g d) (other_entry s g d) (mended_below s g d)

abbrev pub mended : List ℕ → Header → List ℕ
mended s g = mended_below s g (directory_entries_of g)

-- ---- 40, in four parts: that there is no redundant directory is judged in `mend_from`, the other three here
-- the two directories don't hold 0, 1 and tables in the same places: by meaning
unfoldable pub kinds_differ : Entry → Entry → Bool
kinds_differ Absent Absent = false
kinds_differ Zero Zero = false
kinds_differ (Sector t) (Sector u) = false
kinds_differ Absent Zero = true
kinds_differ Absent (Sector u) = true
kinds_differ Zero Absent = true
kinds_differ Zero (Sector u) = true
kinds_differ (Sector t) Absent = true
kinds_differ (Sector t) Zero = true

abbrev pub directories_differ : List ℕ → Header → Bool
directories_differ s g = any_below (λ d. kinds_differ (good_entry s g d) (other_entry s g d)) (directory_entries_of g)

-- header, footer, directories and tables, as the image was lent: no two may meet. Last sector, descriptor and grains are left
-- to the check of the changed image
abbrev pub areas_kept_apart : List ℕ → Header → List Area
areas_kept_apart s g =
    header_area g
    ++ (directory_area g ++ (redundant_area g ++ (primary_tables s g ++ (redundant_tables s g ++ footer_area s g))))

unfoldable pub is_refused : Result Shape Refusal → Bool
is_refused (Ok sizes) = false
is_refused (Err r) = true

-- not the same places; two of those areas meet; the changed image would be refused
unfoldable pub unmendable : List ℕ → Header → Bool
unmendable s g =
    pick (directories_differ s g) true (pick (meet (areas_kept_apart s g)) true (is_refused (check (mended s g))))

-- ---- the list of changes: grain, old entry and new entry, for the entries that differ. t is the good table, u the other, k
-- the entry's number in both: the old entry is the other side's, the new one the good side's
unfoldable pub change_of : List ℕ → ℕ → ℕ → Entry → Entry → List ℕ
change_of s grain k (Sector t) (Sector u) =
    pick (eqb (entry_at s u k) (entry_at s t k)) [] (grain ∷ entry_at s u k ∷ entry_at s t k ∷ [])
change_of s grain k (Sector t) Absent = []
change_of s grain k (Sector t) Zero = []
change_of s grain k Absent u = []
change_of s grain k Zero u = []

abbrev pub change_at : List ℕ → Header → ℕ → List ℕ
change_at s g grain =
    let d = grain / g.entries_per_table in
    change_of s grain (grain % g.entries_per_table) (good_entry s g d) (other_entry s g d)

-- in ascending order of the grains
abbrev pub changes : List ℕ → Header → List ℕ
changes s g = rows (grains_of g) (change_at s g)

-- ---- the answer, where the list has `room` words: 1 to 8 as the check has them, 40, then 21. Three words are a change
unfoldable pub mended_if_room : ℕ → List ℕ → Result ℕ Refusal
mended_if_room room words = pick (ltb room (length words)) (Err TooLittleRoom) (Ok (length words / 3))

unfoldable pub mend_good : List ℕ → Header → ℕ → Result ℕ Refusal
mend_good s g room = pick (unmendable s g) (Err NotMendable) (mended_if_room room (changes s g))

-- 40 also where there is no redundant directory
unfoldable pub mend_from : List ℕ → Side → ℕ → Result Header Refusal → Result ℕ Refusal
mend_from s side room (Err r) = Err r
mend_from s side room (Ok h) =
    pick (misplaced s h) (Err (Misplaced (lowest_misplaced s h)))
    (pick (eqb h.redundant 0) (Err NotMendable) (mend_good s (from_good side h) room))

abbrev pub mend : List ℕ → Side → ℕ → Result ℕ Refusal
mend s side room = mend_from s side room (judge s)

-- ---- the lent image and the lent list: on a refusal all that they held
unfoldable pub after_mend : Result ℕ Refusal → List ℕ → List ℕ → List ℕ
after_mend (Ok count) after before = after
after_mend (Err r) after before = before

abbrev pub mended_image : List ℕ → Side → List ℕ → List ℕ
mended_image s side list = after_mend (mend s side (length list)) (mended s (from_good side (header_of s))) s

abbrev pub mended_list : List ℕ → Side → List ℕ → List ℕ
mended_list s side list =
    after_mend (mend s side (length list)) (over list 0 (changes s (from_good side (header_of s)))) list
