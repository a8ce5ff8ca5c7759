-- The profile is met exactly by the images that it describes, and 42 is given exactly where only the form is another. Request
-- A11.
use Prim.Native.Nat.{ℕ, ◌%◌, ◌≤◌}
use mathlib.Core.Path.{◌≡◌, refl, sym, ap, subst, ◌∙◌}
use mathlib.Core.Logic.{⊎_elim}
use mathlib.Core.List.{List, ◌++◌}
use mathlib.Core.Bool.{Bool, true, false, not, true≢false}
use native.Mathlib.Omega.{arith}
use lib.Dec.{eqb, lit≤}
use lib.ListN.{length}
use borrow.Author.Tests.{eqb-true, eq-eqb}
use Rattle.base.specs.Pick.{pick}
use Rattle.base.proofs.Steps.{or_no, not_no}
use Rattle.format.specs.Header.{header_of}
use Rattle.format.specs.Check.{check}
use Rattle.format.specs.Collapse.{normal_form, not_collapsible, still_open}
use Rattle.format.specs.Profile.{same_file, profile_sizes_broken, profile_form, profile_from, profile_if_accepted}
use Rattle.format.specs.Profile.{profile}
use Rattle.format.specs.Answers.{number}
use Rattle.format.specs.declared.Refusal.{Refusal}
use Rattle.format.specs.declared.Refusal.TheVariants.{NotCollapsible, StillOpen, NotNormal, ProfileSizes}
use Rattle.format.proofs.Picked.{pick_then, pick_else, passed}
use Rattle.format.proofs.Passed.{accepted_past}
use Rattle.laws.specs.Layers.{Layer}
use Rattle.laws.specs.StillOpen.{SomeAccepted}
use Rattle.laws.specs.ProfileImages.{Meets, FirstAt}
use Rattle.laws.proofs.AcceptedImage.{accepted_complete}
use Rattle.laws.proofs.CheckRefusals.{check_refuses}
use Rattle.laws.proofs.CollapsedLayers.{layer_accepted, capacity_is, size_is, unpacked}
use Rattle.laws.proofs.CollapsedAnswer.{own_layer}
use Rattle.laws.proofs.ProfilePlace.{same_file_lem, file_same, other_file, place_first, first_differs, place_only}
use Rattle.laws.proofs.ProfilePlace.{longer_first, start_first}
use Rattle.std.specs.Prelude.{Result, Ok, Err}
use Rattle.format.specs.declared.Shape.{Shape}
use Rattle.format.specs.AnswerParts.{accepted_as}
use Rattle.format.proofs.SameParts.{same_sizes}

-- ---- a layer of the two sizes that is its own normal form
kept_equal : (n m : ℕ) → not (eqb n m) ≡ false → n ≡ m
kept_equal n m e = eqb-true n m (not_no _ e)

equal_kept : (n m : ℕ) → n ≡ m → not (eqb n m) ≡ false
equal_kept n m e = rw (eq-eqb n m e)

pub layer_meets : {c : ℕ} {s : List ℕ} → Layer c 128 s → c % 128 ≡ 0 → s ≡ normal_form s → Meets s
layer_meets {c} {s} p m f = record {
  accepted = layer_accepted p;
  uncompressed = unpacked p;
  clean = kept_equal (header_of s).dirty 0 p.clean;
  grain_size = size_is p;
  capacity = rw (capacity_is p) m;
  form = f;
}

pub meets_layer : {s : List ℕ} → Meets s → Layer (header_of s).capacity 128 s
meets_layer {s} p = record {
  accepted = rw p.grain_size at (accepted_complete s p.accepted);
  collapsible = p.uncompressed;
  clean = equal_kept (header_of s).dirty 0 p.clean;
}

-- ---- the profile of an image that is all but its own normal form
sizes_kept : (s : List ℕ) → (header_of s).grain_size ≡ 128 → (header_of s).capacity % 128 ≡ 0
    → profile_sizes_broken (header_of s) ≡ false
sizes_kept s e m = rw (e, m)

pub accepted_profile : (s : List ℕ) (c size : ℕ) → check s ≡ accepted_as c size
    → profile s ≡ profile_from (header_of s) s (normal_form s)
unfolding profile_if_accepted
accepted_profile s c size e = rw e

layer_profile : {c : ℕ} {s : List ℕ} → Layer c 128 s → c % 128 ≡ 0 → profile s ≡ profile_form (header_of s) s (normal_form s)
unfolding profile_from
layer_profile {c} {s} p m =
    accepted_profile s c 128 p.accepted
    ∙ pick_else _ _ _ p.collapsible
    ∙ pick_else _ _ _ p.clean
    ∙ pick_else _ _ _ (sizes_kept s (size_is p) (rw (capacity_is p) m))

-- an image that meets the profile is accepted, with its capacity and 128
pub meets_profile : {s : List ℕ} → Meets s → profile s ≡ accepted_as (header_of s).capacity 128
unfolding profile_form
meets_profile {s} p =
    layer_profile (meets_layer p) p.capacity ∙ pick_then _ _ _ (file_same s (normal_form s) p.form) ∙ rw p.grain_size

-- the others are refused 42, with the first place where they differ from their normal form
pub place_profile : {c : ℕ} {s : List ℕ} → Layer c 128 s → c % 128 ≡ 0 → (n : ℕ) → FirstAt s (normal_form s) n
    → profile s ≡ Err (NotNormal n)
unfolding profile_form
place_profile {s = s} p m n f =
    let differ = first_differs f in
    layer_profile p m
    ∙ pick_else _ _ _ (other_file s (normal_form s) differ)
    ∙ ap (λ (k : ℕ). Err (NotNormal k)) (place_only (place_first s (normal_form s) differ) f)

-- bytes past the normal form's length, however few
pub longer_place : {c : ℕ} {s : List ℕ} → Layer c 128 s → c % 128 ≡ 0 → (tail : List ℕ) → s ≡ normal_form s ++ tail
    → 1 ≤ length tail → profile s ≡ Err (NotNormal (length (normal_form s)))
longer_place {s = s} p m tail e some =
    place_profile p m (length (normal_form s))
    (subst (λ (a : List ℕ). FirstAt a (normal_form s) (length (normal_form s))) (sym e)
    (longer_first (normal_form s) tail some))

-- an image that is a start of its normal form
pub start_place : {c : ℕ} {s : List ℕ} → Layer c 128 s → c % 128 ≡ 0 → (tail : List ℕ) → normal_form s ≡ s ++ tail
    → 1 ≤ length tail → profile s ≡ Err (NotNormal (length s))
start_place {s = s} p m tail e some =
    place_profile p m (length s) (subst (λ (a : List ℕ). FirstAt s a (length s)) (sym e) (start_first s tail some))

-- ---- what a profile tells
-- an answer that no check gives came from the profile's own rules
was_checked : (a b : Result Shape Refusal) (c size : ℕ) → profile_if_accepted a b ≡ accepted_as c size
    → (k : ℕ) × (g : ℕ) × (a ≡ accepted_as k g) × (b ≡ accepted_as c size)
unfolding profile_if_accepted
was_checked (Err r) b c size e = let z : ◌≡◌ {A = ℕ} 0 1 = cc in absurd (omega arith)
was_checked (Ok sizes) b c size e = (sizes.capacity, sizes.grain_size, refl, e)

same_form : (b : Bool) (r : Refusal) (k g c size : ℕ) → pick b (accepted_as k g) (Err r) ≡ accepted_as c size
    → (b ≡ true) × (c ≡ k) × (size ≡ g)
unfolding pick
same_form true r k g c size q = let same = same_sizes k g c size q in (refl, sym same.0, sym same.1)
same_form false r k g c size q = let z : ◌≡◌ {A = ℕ} 0 1 = cc in absurd (omega arith)

-- what the rules before the form have found
pub own_sizes : (s : List ℕ) (c size : ℕ) → check s ≡ accepted_as c size → not_collapsible (header_of s) ≡ false
    → still_open (header_of s) ≡ false → profile_sizes_broken (header_of s) ≡ false
    → (Layer (header_of s).capacity 128 s) × ((header_of s).capacity % 128 ≡ 0)
own_sizes s c size e n o z =
    let b = or_no (not (eqb (header_of s).grain_size 128)) (not (eqb ((header_of s).capacity % 128) 0)) z in (
      rw (kept_equal (header_of s).grain_size 128 b.0) at (own_layer s c size e n o),
      kept_equal ((header_of s).capacity % 128) 0 b.1,
    )

-- an image that the profile accepts meets it
pub profile_meets : (s : List ℕ) (c size : ℕ) → profile s ≡ accepted_as c size
    → (Meets s) × (c ≡ (header_of s).capacity) × (size ≡ 128)
unfolding profile_from profile_form
profile_meets s c size e =
    let a = was_checked (check s) _ c size e in
    let n = accepted_past (not_collapsible (header_of s)) _ _ c size a.3 in
    let o = accepted_past (still_open (header_of s)) _ _ c size n.1 in
    let z = accepted_past (profile_sizes_broken (header_of s)) _ _ c size o.1 in
    let f = same_form (same_file s (normal_form s)) _ _ _ c size z.1 in
    let p = own_sizes s a.0 a.1 a.2 n.0 o.0 z.0 in
    (layer_meets p.0 p.1 (same_file_lem s (normal_form s) f.0), f.1, f.2 ∙ size_is p.0)

-- ---- refusals of the profile's own
-- a number that no check gives
pub own_refusal : (s : List ℕ) (a b : Result Shape Refusal) (t : Refusal) → 13 ≤ number t → (number t ≡ 43 → ⊥) → check s ≡ a
    → profile_if_accepted a b ≡ Err t → (SomeAccepted s) × (b ≡ Err t)
unfolding profile_if_accepted
own_refusal s (Err r) b t late gone k e =
    let q : r ≡ t = cc in
    absurd (⊎_elim (λ l. let z : number t ≤ 12 = rw q at l in omega arith) (λ l. gone (rw q at l)) (check_refuses s r k))
own_refusal s (Ok sizes) b t late gone k e = ((sizes.capacity, sizes.grain_size, k), e)

-- a rule of another number was kept
pub rule_past : (b : Bool) (r : Refusal) (y : Result Shape Refusal) (t : Refusal) → (number r ≡ number t → ⊥)
    → pick b (Err r) y ≡ Err t → (b ≡ false) × (y ≡ Err t)
rule_past b r y t other e =
    passed b (Err r) y (Err t) (λ q. let z : r ≡ t = cc in other (ap number z)) e

-- ---- 42
other_form : (b : Bool) (k g m n : ℕ) → pick b (accepted_as k g) (Err (NotNormal m)) ≡ Err (NotNormal n)
    → (b ≡ false) × (m ≡ n)
unfolding pick
other_form true k g m n q = let z : ◌≡◌ {A = ℕ} 0 1 = cc in absurd (omega arith)
other_form false k g m n q = (refl, cc)

-- 42 is given only where all but the form is as it should be, and its place is the first where the image and its normal form
-- differ
pub profile_place : (s : List ℕ) (n : ℕ) → profile s ≡ Err (NotNormal n)
    → (Layer (header_of s).capacity 128 s) × ((header_of s).capacity % 128 ≡ 0) × (FirstAt s (normal_form s) n)
unfolding profile_from profile_form
profile_place s m e =
    let a = own_refusal s (check s) _ (NotNormal m) (lit≤ tt) (λ q. omega arith) refl e in
    let n = rule_past (not_collapsible (header_of s)) NotCollapsible _ (NotNormal m) (λ q. omega arith) a.1 in
    let o = rule_past (still_open (header_of s)) StillOpen _ (NotNormal m) (λ q. omega arith) n.1 in
    let z = rule_past (profile_sizes_broken (header_of s)) ProfileSizes _ (NotNormal m) (λ q. omega arith) o.1 in
    let f = other_form (same_file s (normal_form s)) _ _ _ m z.1 in
    let p = own_sizes s a.0.0 a.0.1 a.0.2 n.0 o.0 z.0 in
    let differ : s ≡ normal_form s → ⊥ = λ q. true≢false (sym (file_same s (normal_form s) q) ∙ f.0) in
    (p.0, p.1, rw f.1 at (place_first s (normal_form s) differ))
