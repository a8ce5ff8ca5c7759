-- An image is taken into the comparison: its check, 23, 27, 47.
use Prim.Native.Nat.{ℕ, ◌%◌}
use mathlib.Core.Path.{◌≡◌, refl, sym, ◌∙◌}
use mathlib.Core.List.{List}
use mathlib.Core.Bool.{Bool, false, not}
use native.Mathlib.Omega.{arith}
use lib.Dec.{eqb}
use borrow.Author.Tests.{eqb-true}
use Rattle.base.proofs.Steps.{or_no, not_no}
use Rattle.format.specs.Header.{header_of}
use Rattle.format.specs.Check.{check}
use Rattle.format.specs.Collapse.{normal_form, not_collapsible, still_open}
use Rattle.format.specs.Profile.{profile_sizes_broken, profile_from, profile_if_accepted, profile}
use Rattle.format.specs.declared.Header.{Header}
use Rattle.format.specs.declared.Refusal.{Refusal}
use Rattle.accept.specs.AcceptedHeader.{accepted_header}
use Rattle.accept.proofs.AcceptedHeaders.{checked_of}
use Rattle.laws.proofs.AcceptedImage.{accepted_sound}
use Rattle.profile.specs.FormCompared.{form_of, Taken, Published}
use Rattle.std.specs.Prelude.{Result, Ok, Err}
use Rattle.format.specs.declared.Shape.{Shape}
use Rattle.format.specs.AnswerParts.{accepted_as}

-- ---- 23, 27, 47
pub published_of : {a b d : Bool} (s : List ℕ) (h : Header) → Taken s h → a ≡ not_collapsible h → a ≡ false → b ≡ still_open h
    → b ≡ false → d ≡ profile_sizes_broken h → d ≡ false → Published s h
published_of s h t e n f o g k =
    let q = or_no (not (eqb h.grain_size 128)) (not (eqb (h.capacity % 128) 0)) (sym g ∙ k) in
    record {
      taken = t;
      collapsible = sym e ∙ n;
      clean = sym f ∙ o;
      size = eqb-true _ _ (not_no _ q.0);
      whole = eqb-true _ _ (not_no _ q.1);
    }

-- ---- the check, at the arms of a match
module _ (s : List ℕ) where
  refused_by : (b x : Result Shape Refusal) (r : Refusal) → accepted_header b (header_of s) ≡ Err r
      → Err r ≡ profile_if_accepted b x
  unfolding accepted_header profile_if_accepted
  refused_by (Err q) x r p = cc
  refused_by (Ok sizes) x r p = let n : ◌≡◌ {A = ℕ} 0 1 = cc in absurd (omega arith)

  known_by : (b x : Result Shape Refusal) (h : Header) → b ≡ check s → accepted_header b (header_of s) ≡ Ok h
      → (x ≡ profile_if_accepted b x) × (check s ≡ accepted_as h.capacity h.grain_size)
  unfolding accepted_header profile_if_accepted
  known_by (Err q) x h e p = let n : ◌≡◌ {A = ℕ} 0 1 = cc in absurd (omega arith)
  known_by (Ok sizes) x h e p =
      let is : header_of s ≡ h = cc in
      let told = accepted_sound s sizes.capacity sizes.grain_size (sym e) in
      (refl, sym e ∙ rw (told.1, told.2, is))

  module _ (a : Result Header Refusal) (e : a ≡ accepted_header (check s) (header_of s)) where
    pub not_accepted : (r : Refusal) → a ≡ Err r → Err r ≡ profile s
    not_accepted r q = refused_by (check s) _ r (sym e ∙ q)

    module _ (h : Header) (q : a ≡ Ok h) where
      pub taken_of : Taken s h
      taken_of = record { checked = checked_of _ s a h e q; accepted = (known_by (check s) (check s) h refl (sym e ∙ q)).1 }

      pub as_profile : (r : Result Shape Refusal) → r ≡ profile_from h s (form_of s h) → r ≡ profile s
      as_profile r p =
          let is = (checked_of _ s a h e q).is in
          (rw is at p) ∙ (known_by (check s) (profile_from (header_of s) s (normal_form s)) h refl (sym e ∙ q)).0
