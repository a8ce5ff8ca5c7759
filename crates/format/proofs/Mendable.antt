-- The changed image is accepted exactly where 9, 10 and 12 are not given of the image itself, read from the good side: no
-- second image is needed to judge it.
use Prim.Native.Nat.{ℕ, ◌+◌, ◌-◌, ◌/◌, ◌≤◌, ◌<◌}
use mathlib.Core.Path.{◌≡◌, refl, sym, ap, ◌∙◌}
use mathlib.Core.List.{List, ◌++◌}
use mathlib.Core.Bool.{true, false, true≢false}
use native.Mathlib.Omega.{arith}
use lib.ListN.{get_or}
use Rattle.base.specs.Bytes.{SameBytes}
use Rattle.base.specs.Pick.{pick}
use Rattle.base.specs.Strings.{same_at}
use Rattle.format.specs.Geometry.{file_sectors}
use Rattle.format.specs.Kdmv.{kdmv_magic, kdmv_fields, at_end, last_at}
use Rattle.format.specs.Header.{kdmv_header, kdmv_header_of, directory_entries_of, judge}
use Rattle.format.specs.Areas.{Area, area, header_area, directory_area, redundant_area, primary_tables}
use Rattle.format.specs.Areas.{redundant_tables, footer_area, areas, runs_past, holders, Apart, meet}
use Rattle.format.specs.Accepted.{KdmvRules}
use Rattle.format.specs.Check.{misplaced, copies_differ, unless_grain, check_apart, check_copies, check_grains, check_layout}
use Rattle.format.specs.Check.{lowest_past, check_from, check}
use Rattle.format.specs.Mend.{from_good, good_entry, other_entry, kinds_differ, areas_kept_apart, is_refused}
use Rattle.format.specs.Judged.{Placed, Sided}
use Rattle.format.specs.declared.Taken.TheVariants.{KdmvAlone}
use Rattle.format.specs.declared.Header.{Header}
use Rattle.format.specs.declared.Side.{Side}
use Rattle.format.specs.declared.Side.TheVariants.{Primary, Redundant}
use Rattle.format.proofs.Areas.{holders_append, meet_apart, apart_meet}
use Rattle.format.proofs.Filed.{taken_front, inside_all}
use Rattle.format.proofs.FromGood.{back, placed_from, places_from, two_from}
use Rattle.format.proofs.Held.{held_one, held_there}
use Rattle.format.proofs.HeaderJudged.{judged_rules, judged_header}
use Rattle.format.proofs.HeaderKdmv.{kept_magic}
use Rattle.format.proofs.HeaderSound.{sound_of}
use Rattle.format.proofs.Inside.{in_groups}
use Rattle.format.proofs.MendedAlike.{alike_from, copies_alike}
use Rattle.format.proofs.MendedApart.{Changed}
use Rattle.format.proofs.MendedRead.{kept_at, places_changed}
use Rattle.format.proofs.Passed.{header_passed, layout_passed}
use Rattle.format.proofs.Places.{places_kept, kept_places}
use Rattle.format.proofs.ReadAlike.{holders_areas, holders_frame, Alike, alike_back, Unbroken, alike_unbroken}
use Rattle.format.proofs.SameHeader.{SameFields, kdmv_header_same, judge_same}
use Rattle.std.specs.Prelude.{Result, Ok, Err, None}
use Rattle.format.specs.declared.Shape.{Shape}
use Rattle.format.specs.declared.Refusal.{Refusal}
use Rattle.format.specs.AnswerParts.{accepted_as}

-- ---- what is not refused
pub not_refused : (a : Result Shape Refusal) → is_refused a ≡ false → (c : ℕ) × (size : ℕ) × (a ≡ accepted_as c size)
unfolding is_refused
not_refused (Ok sizes) q = (sizes.capacity, sizes.grain_size, refl)
not_refused (Err r) q = absurd (true≢false q)

-- ---- the areas of the frame that count are among all
pub holders_six : (a b c d e f : List Area) (x : ℕ) → holders (a ++ (b ++ (c ++ (d ++ (e ++ f))))) x
    ≡ holders a x + (holders b x + (holders c x + (holders d x + (holders e x + holders f x))))
holders_six a b c d e f x = simp holders_append

pub frame_apart : (s : List ℕ) (g : Header) → meet (areas s g) ≡ false → meet (areas_kept_apart s g) ≡ false
frame_apart s g e =
    apart_meet (areas_kept_apart s g)
    (λ x.
    omega (
      arith,
      holders_six (header_area g) (directory_area g) (redundant_area g) (primary_tables s g) (redundant_tables s g)
          (footer_area s g) x,
      meet_apart (areas s g) e x,
      holders_areas s g x,
      holders_frame s g x,
    ))

-- ---- what both sides' headers have
same_sectors : (side : Side) (h : Header) → (from_good side h).header_sectors ≡ h.header_sectors
unfolding from_good
same_sectors Primary h = refl
same_sectors Redundant h = refl

same_footer : (side : Side) (h : Header) → (from_good side h).footer ≡ h.footer
unfolding from_good
same_footer Primary h = refl
same_footer Redundant h = refl

module _ (s : List ℕ) (g : Header) (z : Sided s g) where
  placed : Placed s z.header
  placed = record { sound = sound_of s z.header z.judged; kept = z.kept }

  pub sided_placed : Placed s g
  sided_placed = rw z.is (placed_from z.header s z.two z.side placed)

  pub sided_two : g.redundant ≡ 0 → ⊥
  sided_two = rw z.is (two_from z.header s z.two z.side (places_kept s z.header z.kept))

  -- where no grain is past F, all areas lie in the file
  pub sided_inside : lowest_past s g ≡ None → runs_past (file_sectors s) (areas s g) ≡ false
  sided_inside none =
      let front = taken_front s z.header KdmvAlone z.judged in
      let sectors : g.header_sectors ≡ z.header.header_sectors = rw z.is (same_sectors z.side z.header) in
      let footer : g.footer ≡ z.header.footer = rw z.is (same_footer z.side z.header) in
      in_groups s g
      (inside_all s g (record { front = rw sectors front.front; back = λ t. front.back (sym footer ∙ t) })
      sided_placed.kept none)

  turned : z.header ≡ from_good z.side g
  turned = back z.side z.header ∙ ap (from_good z.side) (sym z.is)

  kdmv : (KdmvRules s (kdmv_fields s)) × (z.header ≡ kdmv_header_of s)
  kdmv = judged_rules s z.header z.judged

  magic : same_at s 0 kdmv_magic ≡ true
  unfolding kdmv_fields
  magic = kept_magic s (kdmv_fields s) refl kdmv.0

  one_sector : g.header_sectors ≡ 1
  unfolding kdmv_header
  one_sector = rw z.is (same_sectors z.side z.header ∙ ap (λ (h : Header). h.header_sectors) kdmv.1)

  has_footer : g.footer ≡ at_end (kdmv_fields s)
  unfolding kdmv_header
  has_footer = rw z.is (same_footer z.side z.header ∙ ap (λ (h : Header). h.footer) kdmv.1)

  -- ---- the changed image
  module _ (m : List ℕ) (apart : Apart (areas_kept_apart s g)) (c : Changed s g m)
      (kinds : (d : ℕ) → d < directory_entries_of g → kinds_differ (good_entry s g d) (other_entry s g d) ≡ false) where
    kept : (i : ℕ) → 1 ≤ holders (header_area g) (i / 512) + holders (footer_area s g) (i / 512) → get_or s i 0 ≡ get_or m i 0
    kept i h = sym (kept_at s g m sided_placed sided_two apart c.rest i (omega arith))

    fields_same : SameFields s m
    fields_same =
        record {
          long = sym c.rest.long;
          some = omega (arith, kdmv.0.long);
          head = λ i a b.
              kept i
              (omega (arith, held_one (area 0 g.header_sectors) (i / 512) (omega arith) (omega (arith, one_sector))));
          foot = λ k e i a b.
              kept i
              (omega (
                arith,
                held_there g.footer (area (file_sectors s - 2) 1) (i / 512) (has_footer ∙ e) (omega arith) (omega arith),
              ));
        }

    -- if its header is judged, it is the image's
    pub same_header : (h : Header) → judge m ≡ Ok h → h ≡ z.header
    same_header h e =
        judged_header m h e
        ∙ sym (kdmv_header_same s m fields_same magic)
        ∙ sym (judged_header s z.header z.judged)

    alike : Alike s g m z.header
    alike = rw turned (alike_from s g m sided_placed sided_two apart c kinds z.side)

    -- ---- where it is accepted, nothing is broken from the good side
    pub accepted_unbroken : (capacity size : ℕ) → check m ≡ accepted_as capacity size → Unbroken s g
    accepted_unbroken capacity size e =
        let known = header_passed m (judge m) capacity size e in
        let same : known.0 ≡ z.header = same_header known.0 known.1 in
        let passed = rw same at (layout_passed m known.0 capacity size known.2) in
        alike_unbroken m z.header s g (alike_back alike)
        (record { grains = passed.grains; markers = passed.markers; apart = passed.apart })

    -- ---- and where nothing is broken it is accepted
    module _ (r : Unbroken s g) where
      last_same : at_end (kdmv_fields s) ≡ true → SameBytes s m (last_at s) 512
      last_same e i a b =
          let x = i / 512 in
          let one = held_there g.footer (area (file_sectors s - 1) 1) x (has_footer ∙ e) (omega arith) (omega arith) in
          let most = meet_apart (areas s g) r.apart x in
          sym (c.rest.kept i (omega (arith, one, most, holders_areas s g x, holders_frame s g x)))

      judged_too : judge m ≡ Ok z.header
      judged_too =
          sym (judge_same s m (record { fields = fields_same; last = λ k e. last_same e })) ∙ z.judged

      pub unbroken_accepted : check m ≡ accepted_as z.header.capacity z.header.grain_size
      unfolding check_from check_layout check_grains check_copies check_apart unless_grain pick
      unbroken_accepted =
          let n = alike_unbroken s g m z.header alike r in
          let q = places_from g m sided_two z.side (places_changed s g m sided_placed sided_two apart c.rest) in
          let places : misplaced m z.header ≡ false = rw turned (kept_places m (from_good z.side g) q) in
          let copies : copies_differ m z.header ≡ false =
          rw turned (copies_alike s g m sided_placed sided_two apart c kinds z.side) in
          rw (judged_too, places, n.grains, n.markers, copies, n.apart)
