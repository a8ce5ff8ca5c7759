-- 8 to 12: a header's image is accepted exactly where the area rules hold.
use Prim.Native.Nat.{ℕ}
use mathlib.Core.Path.{◌≡◌, ◌∙◌}
use mathlib.Core.List.{List}
use Rattle.format.specs.Geometry.{file_sectors}
use Rattle.format.specs.Header.{grains_of}
use Rattle.format.specs.Areas.{grain_area, areas}
use Rattle.format.specs.Check.{grain_past, unless_grain, check_apart, check_copies, check_grains, check_layout}
use Rattle.format.specs.Accepted.{AreaRules}
use Rattle.format.specs.declared.Header.{Header}
use Rattle.format.specs.declared.Refusal.{Refusal}
use Rattle.format.proofs.Areas.{meet_apart, apart_meet}
use Rattle.format.proofs.Picked.{pick_else}
use Rattle.format.proofs.Inside.{each_in, in_each, rows_in, groups_in, in_groups}
use Rattle.format.proofs.LowestGrain.{lowest_none}
use Rattle.format.proofs.Passed.{layout_passed}
use Rattle.format.proofs.Filed.{Fronted, inside_all}
use Rattle.format.proofs.Places.{Places, places_kept, kept_places}
use Rattle.laws.proofs.AcceptedCopies.{copies_kept, kept_copies}
use Rattle.laws.proofs.AcceptedMarkers.{markers_kept, kept_markers}
use Rattle.std.specs.Prelude.{Result, Option, None}
use Rattle.format.specs.declared.Shape.{Shape}
use Rattle.format.specs.AnswerParts.{accepted_as}

-- ---- the steps of a check
no_grain_lem : (l : Option ℕ) (refusal : ℕ → Refusal) (y : Result Shape Refusal) → l ≡ None → unless_grain l refusal y ≡ y
unfolding unless_grain
no_grain_lem l refusal y e = rw e

module _ (s : List ℕ) (h : Header) where
  -- ---- where the header's own areas lie in the file, the check finds all that the rules say
  -- what is not refused 8 to 12 keeps the area rules
  pub layout_sound : Fronted s h → (c g : ℕ) → check_layout s h ≡ accepted_as c g → (AreaRules s h) × (c ≡ h.capacity)
      × (g ≡ h.grain_size)
  layout_sound b c g e =
      let p = layout_passed s h c g e in
      let q = places_kept s h p.places in (
        record {
          descriptor = q.both;
          directory = q.some;
          inside = each_in (file_sectors s) (areas s h) (in_groups s h (inside_all s h b p.places p.grains));
          markers = markers_kept s h p.markers;
          copies = copies_kept s h p.copies;
          apart = meet_apart (areas s h) p.apart;
        },
        p.capacity,
        p.size,
      )

  -- ---- the other way: what keeps the area rules is not refused 8 to 12
  pub layout_complete : AreaRules s h → check_layout s h ≡ accepted_as h.capacity h.grain_size
  unfolding check_layout check_grains check_copies check_apart
  layout_complete r =
      let f = file_sectors s in
      let q = groups_in s h (in_each f (areas s h) r.inside) in
      let places : Places s h = record {
        both = r.descriptor;
        descriptor = q.descriptor;
        some = r.directory;
        directory = q.directory;
        redundant = q.redundant;
        tables = q.tables;
        copies = q.copies;
      } in
      pick_else _ _ _ (kept_places s h places)
      ∙ no_grain_lem _ _ _ (lowest_none (grain_past s h) (grains_of h) (rows_in f (grains_of h) (grain_area s h) q.grains))
      ∙ no_grain_lem _ _ _ (kept_markers s h r.markers)
      ∙ pick_else _ _ _ (kept_copies s h r.copies)
      ∙ pick_else _ _ _ (apart_meet (areas s h) r.apart)
