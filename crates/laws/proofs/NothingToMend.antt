-- An accepted image with two directories has nothing to mend: from either side the answer is 0.
use Prim.Native.Nat.{ℕ, ◌/◌, ◌%◌, ◌<◌}
use mathlib.Core.Path.{◌≡◌, refl, sym, ap}
use mathlib.Core.List.{List, []}
use mathlib.Core.Bool.{false}
use native.Mathlib.Omega.{arith}
use borrow.Author.Tests.{ne_eqb, le-ltb}
use Rattle.base.specs.Pick.{pick}
use Rattle.format.specs.Header.{header_of, directory_entries_of, judge}
use Rattle.format.specs.Entries.{entry_at, entries_in_use}
use Rattle.format.specs.Areas.{Area, header_area, directory_area, redundant_area, primary_tables, redundant_tables, footer_area}
use Rattle.format.specs.Areas.{holders, Apart}
use Rattle.format.specs.Check.{check}
use Rattle.format.specs.Accepted.{SameEntry}
use Rattle.format.specs.Accepted.SameEntry.{absent, zero, tables}
use Rattle.format.specs.Mend.{from_good, good_entry, other_entry, mended, kinds_differ, areas_kept_apart}
use Rattle.format.specs.Mend.{is_refused, unmendable, changes, mended_if_room, mend_good, mend_from, mend}
use Rattle.format.specs.Judged.{Passed, Sided}
use Rattle.format.specs.declared.Header.{Header}
use Rattle.format.specs.declared.Side.{Side}
use Rattle.format.specs.declared.Side.TheVariants.{Primary, Redundant}
use Rattle.format.specs.declared.Entry.{Entry}
use Rattle.format.specs.declared.Entry.TheVariants.{Sector}
use Rattle.format.proofs.Areas.{meet_apart, apart_meet}
use Rattle.format.proofs.Entries.{no_some}
use Rattle.format.proofs.FromGood.{redundant_area_lem}
use Rattle.format.proofs.HeaderJudged.{judged_header}
use Rattle.format.proofs.Mendable.{holders_six, frame_apart, sided_placed, sided_two, accepted_unbroken}
use Rattle.format.proofs.Mendable.{unbroken_accepted}
use Rattle.format.proofs.MendedAlike.{grain_used, grain_in_use}
use Rattle.format.proofs.MendedApart.{Changed, mended_changed}
use Rattle.format.proofs.Passed.{header_passed, layout_passed}
use Rattle.format.proofs.Picked.{pick_else}
use Rattle.format.proofs.Places.{places_kept, redundant_tables_lem}
use Rattle.laws.proofs.AcceptedCopies.{SameCopies, copies_kept}
use Rattle.laws.proofs.MendedList.{none_listed}
use Rattle.std.specs.Prelude.{Ok}
use Rattle.format.specs.AnswerParts.{accepted_as}

-- ---- two entries that say the same
same_back : {s : List ℕ} {n : ℕ} {a b : Entry} → SameEntry s n a b → SameEntry s n b a
same_back absent = absent
same_back zero = zero
same_back (tables f) = tables (λ k l. sym (f k l))

same_kind : {s : List ℕ} {n : ℕ} {a b : Entry} → SameEntry s n a b → kinds_differ a b ≡ false
unfolding kinds_differ
same_kind absent = refl
same_kind zero = refl
same_kind (tables f) = refl

same_number : {s : List ℕ} {n : ℕ} {a b : Entry} → SameEntry s n a b → (v w : ℕ) → a ≡ Sector v → b ≡ Sector w → (k : ℕ)
    → k < n → entry_at s w k ≡ entry_at s v k
same_number absent v w e f k l = let z : ◌≡◌ {A = ℕ} 0 1 = cc in absurd (omega arith)
same_number zero v w e f k l = let z : ◌≡◌ {A = ℕ} 0 1 = cc in absurd (omega arith)
same_number {s} (tables {t} {u} same) v w e f k l =
    let first : t ≡ v = cc in
    let second : u ≡ w = cc in
    rw (← first, ← second) (sym (same k l))

-- ---- from either side
module _ (s : List ℕ) (h : Header) (two : h.redundant ≡ 0 → ⊥) (some : h.directory ≡ 0 → ⊥) where
  kept_from : (side : Side) → Apart (areas_kept_apart s h) → Apart (areas_kept_apart s (from_good side h))
  unfolding from_good
  kept_from Primary apart x = apart x
  kept_from Redundant apart x =
      let g : Header = from_good Redundant h in
      let held : List Area → ℕ = λ l. holders l x in
      omega (
        arith,
        apart x,
        holders_six (header_area h) (directory_area h) (redundant_area h) (primary_tables s h) (redundant_tables s h)
            (footer_area s h) x,
        holders_six (header_area g) (directory_area g) (redundant_area g) (primary_tables s g) (redundant_tables s g)
            (footer_area s g) x,
        ap held (redundant_area_lem g some),
        ap held (redundant_area_lem h two),
        ap held (redundant_tables_lem s g some),
        ap held (redundant_tables_lem s h two),
      )

  copies_from : (side : Side) → SameCopies s h → SameCopies s (from_good side h)
  unfolding from_good
  copies_from Primary same n d l = same n d l
  copies_from Redundant same n d l = same_back (same two d l)

module _ (s : List ℕ) (h : Header) (c size : ℕ) (judged : judge s ≡ Ok h) (p : Passed s h c size)
    (two : h.redundant ≡ 0 → ⊥) (side : Side) where
  abbrev g : Header
  g = from_good side h

  some : h.directory ≡ 0 → ⊥
  some = (places_kept s h p.places).some

  abbrev sided : Sided s g
  sided = record { side = side; header = h; judged = judged; kept = p.places; two = two; is = refl }

  -- the two sides say the same
  same_from : (d : ℕ) → d < directory_entries_of g → SameEntry s (entries_in_use g d) (good_entry s g d) (other_entry s g d)
  same_from = copies_from s h two some side (copies_kept s h p.copies) (sided_two s g sided)

  apart : Apart (areas_kept_apart s g)
  apart = kept_from s h two some side (meet_apart (areas_kept_apart s h) (frame_apart s h p.apart))

  -- so the image is what it would be if it were changed
  changed : Changed s g s
  changed =
      record {
        rest = record { long = refl; kept = λ i z. refl };
        moved = λ d t u l a b k q. same_number (same_from d l) t u a b k q;
      }

  kinds : (d : ℕ) → d < directory_entries_of g → kinds_differ (good_entry s g d) (other_entry s g d) ≡ false
  kinds d l = same_kind (same_from d l)

  module _ (e : check s ≡ accepted_as c size) where
    accepted : check (mended s g) ≡ accepted_as h.capacity h.grain_size
    accepted =
        unbroken_accepted s g sided (mended s g) apart
        (mended_changed s g (sided_placed s g sided) (sided_two s g sided) apart) kinds
        (accepted_unbroken s g sided s apart changed kinds c size e)

    none : changes s g ≡ []
    none =
        none_listed s g
        (λ x l t u a b.
        let sound = (sided_placed s g sided).sound in
        same_number (same_from (x / g.entries_per_table) (grain_used g sound x l)) t u a b (x % g.entries_per_table)
        (grain_in_use g sound x l))

    mendable : unmendable s g ≡ false
    unfolding unmendable is_refused pick
    mendable =
        rw (no_some _ (directory_entries_of g) kinds, apart_meet (areas_kept_apart s g) apart, accepted)

    nothing : (room : ℕ) → mend s side room ≡ Ok 0
    unfolding mend_from mend_good mended_if_room pick
    nothing room =
        rw (judged, p.places, ne_eqb h.redundant 0 two, mendable, none) (pick_else _ _ _ (le-ltb room 0 (omega arith)))

pub nothing_to_mend : (s : List ℕ) (c size : ℕ) → check s ≡ accepted_as c size → ((header_of s).redundant ≡ 0 → ⊥)
    → (side : Side)
    (room : ℕ) → mend s side room ≡ Ok 0
nothing_to_mend s c size e two side room =
    let known = header_passed s (judge s) c size e in
    nothing s known.0 c size known.1 (layout_passed s known.0 c size known.2)
    (rw (judged_header s known.0 known.1) two) side e room
