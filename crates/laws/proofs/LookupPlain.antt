-- The lookup in document 01's words: 20, then 8 of the directory, 8 of the sector's table, 9 and 10 of its grain, each by the
-- test that the check has for it; else the sector's source.
use Prim.Native.Nat.{ℕ, ◌/◌, ◌%◌}
use mathlib.Core.Path.{◌≡◌, refl, ap}
use mathlib.Core.List.{List}
use mathlib.Core.Bool.{Bool, true, false, ◌&&◌}
use lib.Dec.{leb}
use Rattle.base.specs.Pick.{pick}
use Rattle.format.specs.Geometry.{file_sectors}
use Rattle.format.specs.Entries.{in_table, meaning_at, entry_of_grain, grain_sectors}
use Rattle.format.specs.Areas.{area, named, runs_past}
use Rattle.format.specs.Check.{directory_misplaced, grain_past, marker_broken_at, bad_marker}
use Rattle.format.specs.Source.{entry_source, source_of, lookup_grain, lookup_entry, lookup_table, lookup_in}
use Rattle.format.specs.declared.Header.{Header}
use Rattle.format.specs.declared.Entry.{Entry}
use Rattle.format.specs.declared.Entry.TheVariants.{Absent, Zero, Sector}
use Rattle.format.specs.declared.MisplacedPart.TheVariants.{Directory, PrimaryTable}
use Rattle.format.specs.declared.Refusal.TheVariants.{Misplaced, GrainPast, Marker, SectorPast}
use Rattle.format.proofs.Inside.{past_one}
use Rattle.std.specs.Prelude.{Result, Ok, Err}
use Rattle.format.specs.declared.Source.{Source}
use Rattle.format.specs.declared.Refusal.{Refusal}

and-false : (b : Bool) → (b && false) ≡ false
and-false true = refl
and-false false = refl

-- the table of grain g runs past F, if it has one
abbrev pub table_past : List ℕ → Header → ℕ → Bool
table_past s h g =
    runs_past (file_sectors s)
    (named (λ e. h.table_sectors) (meaning_at s h.one_is_zero h.directory (g / h.entries_per_table)))

module _ (s : List ℕ) (h : Header) (g o : ℕ) where
  -- 9 and 10 of a grain, from its entry on
  abbrev judged : Entry → Result Source Refusal
  judged d =
      pick (runs_past (file_sectors s) (named (grain_sectors s h.packed h.grain_size) d)) (Err (GrainPast g))
      (pick (h.packed && marker_broken_at s h.grain_size g d) (Err (Marker g)) (Ok (entry_source s h.packed o d)))

  entry_judged : (d : Entry) → lookup_entry s h g o d ≡ judged d
  unfolding pick named runs_past marker_broken_at entry_source lookup_entry lookup_grain
  entry_judged Absent = rw (and-false h.packed)
  entry_judged Zero = rw (and-false h.packed)
  entry_judged (Sector e) =
      rw (past_one (file_sectors s) (area e (grain_sectors s h.packed h.grain_size e)))

  table_judged : (d : Entry) → lookup_table s h g o d
      ≡ pick (runs_past (file_sectors s) (named (λ e. h.table_sectors) d)) (Err (Misplaced PrimaryTable))
      (judged (in_table s h.one_is_zero (g % h.entries_per_table) d))
  unfolding pick named runs_past marker_broken_at entry_source in_table lookup_table
  table_judged Absent = rw (and-false h.packed)
  table_judged Zero = rw (and-false h.packed)
  table_judged (Sector t) =
      rw (
        past_one (file_sectors s) (area t h.table_sectors),
        entry_judged
            (meaning_at s h.one_is_zero t (g % h.entries_per_table)),
      )

pub lookup_plain : (s : List ℕ) (h : Header) (x : ℕ) → lookup_in s h x
    ≡ pick (leb h.capacity x) (Err SectorPast)
    (pick (directory_misplaced (file_sectors s) h) (Err (Misplaced Directory))
    (pick (table_past s h (x / h.grain_size)) (Err (Misplaced PrimaryTable))
    (pick (grain_past s h (x / h.grain_size)) (Err (GrainPast (x / h.grain_size)))
    (pick (bad_marker s h (x / h.grain_size)) (Err (Marker (x / h.grain_size))) (Ok (source_of s h x))))))
unfolding lookup_in entry_of_grain
lookup_plain s h x =
    ap (λ a. pick (leb h.capacity x) (Err SectorPast)
    (pick (directory_misplaced (file_sectors s) h) (Err (Misplaced Directory)) a))
    (table_judged s h (x / h.grain_size) (x % h.grain_size)
    (meaning_at s h.one_is_zero h.directory (x / h.grain_size / h.entries_per_table)))
