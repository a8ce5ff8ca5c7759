-- The profile gives 23, 27 and 47 exactly where the check and the rules before let the image through and this one is broken.
-- Request A11.
use Prim.Native.Nat.{ℕ}
use mathlib.Core.Path.{◌≡◌, refl, ap, ◌∙◌}
use mathlib.Core.List.{List}
use mathlib.Core.Bool.{Bool, true, false}
use native.Mathlib.Omega.{arith}
use lib.Dec.{lit≤}
use Rattle.base.specs.Pick.{pick}
use Rattle.format.specs.Header.{header_of}
use Rattle.format.specs.Check.{check}
use Rattle.format.specs.Collapse.{normal_form, not_collapsible, still_open}
use Rattle.format.specs.Profile.{same_file, first_difference, profile_sizes_broken, profile_form, profile_from, profile}
use Rattle.format.specs.Answers.{number}
use Rattle.format.specs.declared.Header.{Header}
use Rattle.format.specs.declared.Refusal.{Refusal}
use Rattle.format.specs.declared.Refusal.TheVariants.{NotCollapsible, StillOpen, NotNormal, ProfileSizes}
use Rattle.format.proofs.Picked.{pick_then, pick_else, passed}
use Rattle.laws.specs.StillOpen.{SomeAccepted, OpenImage}
use Rattle.laws.proofs.ProfileMet.{accepted_profile, own_refusal, rule_past}
use Rattle.std.specs.Prelude.{Result, Err}
use Rattle.format.specs.declared.Shape.{Shape}
use Rattle.format.specs.AnswerParts.{accepted_as}

-- ---- the rule that a refusal names
-- nothing after it gives its number, so it is broken
named_broken : (b : Bool) (r : Refusal) (y : Result Shape Refusal) → (y ≡ Err r → ⊥) → pick b (Err r) y ≡ Err r → b ≡ true
unfolding pick
named_broken true r y never e = refl
named_broken false r y never e = absurd (never e)

-- the form after all three gives 42 alone
form_never : (h : Header) (image form : List ℕ) (r : Refusal) → (42 ≡ number r → ⊥) → profile_form h image form ≡ Err r → ⊥
unfolding profile_form
form_never h image form r other e =
    let differ = passed (same_file image form) (accepted_as h.capacity h.grain_size) _ (Err r)
    (λ q. let z : ◌≡◌ {A = ℕ} 0 1 = cc in omega arith) e in
    let same = differ.1 in
    let is : NotNormal (first_difference image form) ≡ r = cc in
    other (ap number is)

module _ (s : List ℕ) where
  -- ---- 23
  pub packed_profile : SomeAccepted s → not_collapsible (header_of s) ≡ true → profile s ≡ Err NotCollapsible
  unfolding profile_from
  packed_profile a n = accepted_profile s a.0 a.1 a.2 ∙ pick_then _ _ _ n

  pub profile_packed : profile s ≡ Err NotCollapsible → (SomeAccepted s) × (not_collapsible (header_of s) ≡ true)
  unfolding profile_from
  profile_packed e =
      let a = own_refusal s (check s) _ NotCollapsible (lit≤ tt) (λ q. omega arith) refl e in (
        a.0,
        named_broken (not_collapsible (header_of s)) NotCollapsible _
            (λ q.
            let o = rule_past (still_open (header_of s)) StillOpen _ NotCollapsible (λ i. omega arith) q in
            let z = rule_past (profile_sizes_broken (header_of s)) ProfileSizes _ NotCollapsible (λ i. omega arith) o.1 in
            form_never (header_of s) s (normal_form s) NotCollapsible (λ i. omega arith) z.1)
            a.1,
      )

  -- ---- 27: of the same images as normal form gives it
  pub open_profile : OpenImage s → profile s ≡ Err StillOpen
  unfolding profile_from
  open_profile p =
      let a = p.checked in
      accepted_profile s a.0 a.1 a.2 ∙ pick_else _ _ _ p.collapsible ∙ pick_then _ _ _ p.dirty

  pub profile_open : profile s ≡ Err StillOpen → OpenImage s
  unfolding profile_from
  profile_open e =
      let a = own_refusal s (check s) _ StillOpen (lit≤ tt) (λ q. omega arith) refl e in
      let n = rule_past (not_collapsible (header_of s)) NotCollapsible _ StillOpen (λ q. omega arith) a.1 in
      record {
        checked = a.0;
        collapsible = n.0;
        dirty =
            named_broken (still_open (header_of s)) StillOpen _
            (λ q.
            let z = rule_past (profile_sizes_broken (header_of s)) ProfileSizes _ StillOpen (λ i. omega arith) q in
            form_never (header_of s) s (normal_form s) StillOpen (λ i. omega arith) z.1)
            n.1;
      }

  -- ---- 47
  pub sizes_profile : SomeAccepted s → not_collapsible (header_of s) ≡ false → still_open (header_of s) ≡ false
      → profile_sizes_broken (header_of s) ≡ true → profile s ≡ Err ProfileSizes
  unfolding profile_from
  sizes_profile a n o z =
      accepted_profile s a.0 a.1 a.2 ∙ pick_else _ _ _ n ∙ pick_else _ _ _ o ∙ pick_then _ _ _ z

  pub profile_sizes : profile s ≡ Err ProfileSizes
      → (SomeAccepted s) × (not_collapsible (header_of s) ≡ false) × (still_open (header_of s) ≡ false)
      × (profile_sizes_broken (header_of s) ≡ true)
  unfolding profile_from
  profile_sizes e =
      let a = own_refusal s (check s) _ ProfileSizes (lit≤ tt) (λ q. omega arith) refl e in
      let n = rule_past (not_collapsible (header_of s)) NotCollapsible _ ProfileSizes (λ q. omega arith) a.1 in
      let o = rule_past (still_open (header_of s)) StillOpen _ ProfileSizes (λ q. omega arith) n.1 in (
        a.0,
        n.0,
        o.0,
        named_broken (profile_sizes_broken (header_of s)) ProfileSizes _
            (form_never (header_of s) s (normal_form s) ProfileSizes (λ i. omega arith))
            o.1,
      )
