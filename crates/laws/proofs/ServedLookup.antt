-- Where the area rules hold, the lookup in a header refuses no sector below capacity and finds the source of its entry.
use Prim.Native.Nat.{ℕ, ◌+◌, ◌/◌, ◌%◌, ◌≤◌, ◌<◌}
use mathlib.Core.Path.{◌≡◌, refl, ◌∙◌}
use mathlib.Core.List.{List}
use mathlib.Core.Bool.{true, false}
use borrow.Author.Tests.{le-ltb, le-leb, lt-leb}
use Rattle.format.specs.Geometry.{file_sectors}
use Rattle.format.specs.Header.{grains_of}
use Rattle.format.specs.Entries.{in_table, meaning_at, entry_of_grain, grain_entry, grain_sectors, marker_broken}
use Rattle.format.specs.Areas.{named, areas, runs_past}
use Rattle.format.specs.Accepted.{AreaRules}
use Rattle.format.specs.Source.{grain_source, entry_source, source_of, lookup_grain, lookup_entry, lookup_table, lookup_in}
use Rattle.format.specs.declared.Header.{Header}
use Rattle.format.specs.declared.Entry.{Entry}
use Rattle.format.specs.declared.Entry.TheVariants.{Absent, Zero, Sector}
use Rattle.format.specs.declared.Refusal.TheVariants.{SectorPast}
use Rattle.format.proofs.Geometry.{grain_of_lem, entry_used}
use Rattle.format.proofs.Picked.{pick_then, pick_else, no_and}
use Rattle.format.proofs.Inside.{in_each, rows_in, named_in, Inside, groups_in}
use Rattle.format.proofs.Places.{kept_directory}
use Rattle.laws.proofs.AcceptedMarkers.{kept_marker}
use Rattle.std.specs.Prelude.{Ok, Err}

-- 20: sector at or past the end
pub past_in : (s : List ℕ) (h : Header) (x : ℕ) → h.capacity ≤ x → lookup_in s h x ≡ Err SectorPast
unfolding lookup_in
past_in s h x l = pick_then _ _ _ (le-leb h.capacity x l)

-- ---- one grain, from its directory entry and its table entry on
module _ (s : List ℕ) (h : Header) (g o : ℕ) where
  grain_served : (e : ℕ) → runs_past (file_sectors s) (named (grain_sectors s h.packed h.grain_size) (Sector e)) ≡ false
      → (h.packed ≡ true → marker_broken s h.grain_size g e ≡ false) → lookup_grain s h g o e
      ≡ Ok (grain_source s h.packed o e)
  unfolding lookup_grain
  grain_served e p m =
      pick_else _ _ _ (le-ltb (file_sectors s) (e + grain_sectors s h.packed h.grain_size e)
      (named_in (file_sectors s) (grain_sectors s h.packed h.grain_size) e p))
      ∙ pick_else _ _ _ (no_and h.packed _ m)

  entry_served : (d : Entry) → runs_past (file_sectors s) (named (grain_sectors s h.packed h.grain_size) d) ≡ false
      → ((e : ℕ) → d ≡ Sector e → h.packed ≡ true → marker_broken s h.grain_size g e ≡ false) → lookup_entry s h g o d
      ≡ Ok (entry_source s h.packed o d)
  unfolding lookup_entry entry_source
  entry_served Absent p m = refl
  entry_served Zero p m = refl
  entry_served (Sector e) p m = grain_served e p (m e refl)

  table_served : (d : Entry) → runs_past (file_sectors s) (named (λ e. h.table_sectors) d) ≡ false
      → runs_past (file_sectors s) (named (grain_sectors s h.packed h.grain_size)
      (in_table s h.one_is_zero (g % h.entries_per_table) d)) ≡ false
      → ((e : ℕ) → in_table s h.one_is_zero (g % h.entries_per_table) d ≡ Sector e → h.packed ≡ true
      → marker_broken s h.grain_size g e ≡ false)
      → lookup_table s h g o d ≡ Ok (entry_source s h.packed o
      (in_table s h.one_is_zero (g % h.entries_per_table) d))
  unfolding lookup_table in_table entry_source
  table_served Absent t p m = refl
  table_served Zero t p m = refl
  table_served (Sector u) t p m =
      pick_else _ _ _ (le-ltb (file_sectors s) (u + h.table_sectors) (named_in (file_sectors s) (λ e. h.table_sectors) u t))
      ∙ entry_served (meaning_at s h.one_is_zero u (g % h.entries_per_table)) p m

-- ---- every sector below capacity
module _ (s : List ℕ) (h : Header) (one : 1 ≤ h.grain_size) (per : 1 ≤ h.entries_per_table) (r : AreaRules s h) where
  placed : Inside s h
  placed = groups_in s h (in_each (file_sectors s) (areas s h) r.inside)

  module _ (x : ℕ) (low : x < h.capacity) where
    grain_used : x / h.grain_size < grains_of h
    grain_used = grain_of_lem h.capacity h.grain_size one x low

    pub grain_in : runs_past (file_sectors s) (named (grain_sectors s h.packed h.grain_size)
        (grain_entry s h (x / h.grain_size))) ≡ false
    grain_in = rows_in (file_sectors s) (grains_of h) _ placed.grains (x / h.grain_size) grain_used

    table_in : runs_past (file_sectors s) (named (λ e. h.table_sectors)
        (meaning_at s h.one_is_zero h.directory (x / h.grain_size / h.entries_per_table))) ≡ false
    table_in =
        rows_in (file_sectors s) _ _ placed.tables _
        (entry_used h.capacity h.grain_size one h.entries_per_table per (x / h.grain_size) grain_used)

    marker_good : (e : ℕ) → grain_entry s h (x / h.grain_size) ≡ Sector e → h.packed ≡ true
        → marker_broken s h.grain_size (x / h.grain_size) e ≡ false
    marker_good e q p =
        kept_marker s h.grain_size (x / h.grain_size) e (r.markers p (x / h.grain_size) e grain_used q)

    -- the source that the grain's entry gives
    pub found_in : lookup_in s h x ≡ Ok (source_of s h x)
    unfolding lookup_in entry_of_grain
    found_in =
        pick_else _ _ _ (lt-leb h.capacity x low)
        ∙ pick_else _ _ _ (kept_directory (file_sectors s) h r.directory placed.directory)
        ∙ table_served s h _ _ _ table_in grain_in marker_good
