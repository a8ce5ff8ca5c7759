-- The changed image is read, from either side, as the image is from the good one: grains, frame and markers; and its copies are
-- alike.
use Prim.Native.Nat.{ℕ, ◌/◌, ◌%◌, ◌<◌}
use mathlib.Core.Path.{◌≡◌, refl, sym, ap, ◌∙◌}
use mathlib.Core.List.{List}
use mathlib.Core.Bool.{Bool, false, true≢false}
use native.Mathlib.Omega.{arith}
use native.Mathlib.Nat.{div-add-mod', mod-lt}
use borrow.Author.Tests.{eq-eqb, ne_eqb}
use Rattle.base.proofs.SameBytes.{number_same}
use Rattle.format.specs.Header.{grains_of, directory_entries_of}
use Rattle.format.specs.Entries.{entry_at, meaning, in_table, entry_of_grain, grain_entry, entries_in_use, marker_size}
use Rattle.format.specs.Entries.{marker_first}
use Rattle.format.specs.Areas.{directory_area, redundant_area, primary_tables, redundant_tables, holders, Apart}
use Rattle.format.specs.Frame.{frame_areas}
use Rattle.format.specs.Check.{copy_differs, copies_differ}
use Rattle.format.specs.Mend.{from_good, good_entry, other_entry, kinds_differ, areas_kept_apart}
use Rattle.format.specs.Judged.{Sound, Placed}
use Rattle.format.specs.declared.Header.{Header}
use Rattle.format.specs.declared.Side.{Side}
use Rattle.format.specs.declared.Side.TheVariants.{Primary, Redundant}
use Rattle.format.specs.declared.Entry.{Entry}
use Rattle.format.specs.declared.Entry.TheVariants.{Absent, Zero, Sector}
use Rattle.format.proofs.Entries.{by_entry, no_some}
use Rattle.format.proofs.FromGood.{redundant_area_lem}
use Rattle.format.proofs.Geometry.{entry_used}
use Rattle.format.proofs.MendedApart.{Changed}
use Rattle.format.proofs.MendedRead.{good_entry_lem, other_entry_lem, good_table, good_tables, other_tables}
use Rattle.format.proofs.Picked.{pick_else}
use Rattle.format.proofs.Places.{places_kept, redundant_tables_lem}
use Rattle.format.proofs.ReadAlike.{holders_frame, Alike}

-- ---- two entries of one kind
kinds_back : (a b : Entry) → kinds_differ a b ≡ kinds_differ b a
unfolding kinds_differ
kinds_back Absent Absent = refl
kinds_back Absent Zero = refl
kinds_back Absent (Sector u) = refl
kinds_back Zero Absent = refl
kinds_back Zero Zero = refl
kinds_back Zero (Sector u) = refl
kinds_back (Sector t) Absent = refl
kinds_back (Sector t) Zero = refl
kinds_back (Sector t) (Sector u) = refl

in_both : (s m : List ℕ) (one_is_zero : Bool) (k : ℕ) (a b : Entry) → kinds_differ a b ≡ false
    → ((t u : ℕ) → a ≡ Sector t → b ≡ Sector u → entry_at s t k ≡ entry_at m u k)
    → in_table s one_is_zero k a ≡ in_table m one_is_zero k b
unfolding kinds_differ in_table
in_both s m one_is_zero k Absent Absent e f = refl
in_both s m one_is_zero k Absent Zero e f = absurd (true≢false e)
in_both s m one_is_zero k Absent (Sector u) e f = absurd (true≢false e)
in_both s m one_is_zero k Zero Absent e f = absurd (true≢false e)
in_both s m one_is_zero k Zero Zero e f = refl
in_both s m one_is_zero k Zero (Sector u) e f = absurd (true≢false e)
in_both s m one_is_zero k (Sector t) Absent e f = absurd (true≢false e)
in_both s m one_is_zero k (Sector t) Zero e f = absurd (true≢false e)
in_both s m one_is_zero k (Sector t) (Sector u) e f = ap (meaning one_is_zero) (f t u refl refl)

copy_alike : (m : List ℕ) (n : ℕ) (a b : Entry) → kinds_differ a b ≡ false
    → ((t u : ℕ) → a ≡ Sector t → b ≡ Sector u → (k : ℕ) → k < n → entry_at m t k ≡ entry_at m u k)
    → copy_differs m n a b ≡ false
unfolding kinds_differ copy_differs
copy_alike m n Absent Absent e f = refl
copy_alike m n Absent Zero e f = e
copy_alike m n Absent (Sector u) e f = e
copy_alike m n Zero Absent e f = e
copy_alike m n Zero Zero e f = refl
copy_alike m n Zero (Sector u) e f = e
copy_alike m n (Sector t) Absent e f = e
copy_alike m n (Sector t) Zero e f = e
copy_alike m n (Sector t) (Sector u) e f =
    no_some _ n (λ k l. rw (eq-eqb (entry_at m t k) (entry_at m u k) (f t u refl refl k l)))

-- ---- the entry of a grain is one in use
module _ (g : Header) (sound : Sound g) (x : ℕ) (l : x < grains_of g) where
  pub grain_used : x / g.entries_per_table < directory_entries_of g
  grain_used = entry_used g.capacity g.grain_size sound.sizes.low g.entries_per_table sound.some x l

  pub grain_in_use : x % g.entries_per_table < entries_in_use g (x / g.entries_per_table)
  grain_in_use = omega (arith, mod-lt x sound.some, div-add-mod' x g.entries_per_table)

-- ---- the changed image, where the directories hold 0, 1 and tables in the same places
module _ (s : List ℕ) (g : Header) (m : List ℕ) (p : Placed s g) (two : g.redundant ≡ 0 → ⊥)
    (apart : Apart (areas_kept_apart s g)) (c : Changed s g m)
    (kinds : (d : ℕ) → d < directory_entries_of g → kinds_differ (good_entry s g d) (other_entry s g d) ≡ false) where
  -- ---- the entry of a grain
  module _ (x : ℕ) (l : x < grains_of g) where
    abbrev d : ℕ
    d = x / g.entries_per_table

    abbrev k : ℕ
    k = x % g.entries_per_table

    used : d < directory_entries_of g
    used = grain_used g p.sound x l

    in_use : k < entries_in_use g d
    in_use = grain_in_use g p.sound x l

    grain_good : grain_entry s g x ≡ grain_entry m g x
    unfolding entry_of_grain in_table
    grain_good =
        rw (good_entry_lem s g m p two apart c.rest d used)
        (by_entry (in_table s g.one_is_zero k) (in_table m g.one_is_zero k) refl refl (good_entry s g d)
        (λ t e.
        let low : k < g.entries_per_table = omega (arith, in_use) in
        ap (meaning g.one_is_zero) (sym (good_table s g m p two apart c.rest d used t e k low))))

    grain_other : grain_entry s g x ≡ grain_entry m (from_good Redundant g) x
    unfolding entry_of_grain from_good
    grain_other =
        rw (other_entry_lem s g m p two apart c.rest d used)
        (in_both s m g.one_is_zero k (good_entry s g d) (other_entry s g d) (kinds d used)
        (λ t u e f. sym (c.moved d t u used e f k in_use)))

  -- ---- the frame
  frames_good : (x : ℕ) → holders (frame_areas s g) x ≡ holders (frame_areas m g) x
  unfolding frame_areas
  frames_good x = rw (good_tables s g m p two apart c.rest, other_tables s g m p two apart c.rest, c.rest.long)

  frames_other : (x : ℕ) → holders (frame_areas s g) x ≡ holders (frame_areas m (from_good Redundant g)) x
  unfolding from_good
  frames_other x =
      let h : Header = from_good Redundant g in
      let some = (places_kept s g p.kept).some in
      let copies : redundant_tables m h ≡ primary_tables s g =
      redundant_tables_lem m h some ∙ good_tables s g m p two apart c.rest in
      let tables : primary_tables m h ≡ redundant_tables s g =
      sym (redundant_tables_lem m g two) ∙ other_tables s g m p two apart c.rest in
      let second : redundant_area h ≡ directory_area g = redundant_area_lem h some in
      let first : redundant_area g ≡ directory_area h = redundant_area_lem g two in
      holders_frame s g x ∙ rw (first, holders_frame m h x, copies, tables, second, c.rest.long) (omega arith)

  -- ---- markers outside the frame
  markers_kept : (e : ℕ) → holders (frame_areas s g) e ≡ 0 → (marker_size s e ≡ marker_size m e)
      × (marker_first s e ≡ marker_first m e)
  markers_kept e z =
      let none : holders (redundant_tables s g) e ≡ 0 = omega (arith, holders_frame s g e) in (
        number_same s m _ 4 (λ i a b. let q : i / 512 ≡ e = omega arith in sym (c.rest.kept i (rw q none))),
        number_same s m _ 8 (λ i a b. let q : i / 512 ≡ e = omega arith in sym (c.rest.kept i (rw q none))),
      )

  pub alike_from : (side : Side) → Alike s g m (from_good side g)
  unfolding from_good
  alike_from Primary =
      record {
        long = sym c.rest.long;
        count = refl;
        packed = refl;
        size = refl;
        some = p.sound.sizes.low;
        entries = grain_good;
        frames = frames_good;
        markers = markers_kept;
      }
  alike_from Redundant =
      record {
        long = sym c.rest.long;
        count = refl;
        packed = refl;
        size = refl;
        some = p.sound.sizes.low;
        entries = grain_other;
        frames = frames_other;
        markers = markers_kept;
      }

  -- ---- 11
  tables_alike : (d : ℕ) → d < directory_entries_of g → (t u : ℕ) → good_entry s g d ≡ Sector t → other_entry s g d ≡ Sector u
      → (k : ℕ) → k < entries_in_use g d → entry_at m t k ≡ entry_at m u k
  tables_alike d l t u e f k b =
      good_table s g m p two apart c.rest d l t e k (omega arith) ∙ sym (c.moved d t u l e f k b)

  pub copies_alike : (side : Side) → copies_differ m (from_good side g) ≡ false
  unfolding from_good copies_differ
  copies_alike Primary =
      pick_else _ _ _ (ne_eqb g.redundant 0 two)
      ∙ no_some _ (directory_entries_of g)
      (λ d l.
      rw (good_entry_lem s g m p two apart c.rest d l, other_entry_lem s g m p two apart c.rest d l)
      (copy_alike m _ _ _ (kinds d l) (tables_alike d l)))
  copies_alike Redundant =
      pick_else _ _ _ (ne_eqb g.directory 0 (places_kept s g p.kept).some)
      ∙ no_some _ (directory_entries_of g)
      (λ d l.
      rw (good_entry_lem s g m p two apart c.rest d l, other_entry_lem s g m p two apart c.rest d l)
      (copy_alike m _ _ _ (kinds_back (other_entry s g d) (good_entry s g d) ∙ kinds d l)
      (λ u t f e k b. sym (tables_alike d l t u e f k b))))
