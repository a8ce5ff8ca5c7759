-- Of the bytes from 512 x F on the profile tells 42's place and no more: images of one length that agree below them get the
-- same answer, or both 42 with a place from there on.
use Prim.Native.Nat.{ℕ, ◌*◌, ◌%◌, ◌<◌}
use mathlib.Core.Path.{◌≡◌, refl, sym, ap, subst, ◌∙◌}
use mathlib.Core.Logic.{◌⊎◌, inl, inr, ⊎_elim}
use mathlib.Core.List.{List}
use mathlib.Core.Bool.{Bool, true, false, ◌||◌, false≢true}
use native.Mathlib.Omega.{arith}
use lib.ListN.{length}
use lib.Seq.{ext_get_or}
use Rattle.base.specs.Pick.{pick}
use Rattle.base.proofs.Steps.{or_no, true_or_false, lt_or_ge}
use Rattle.format.specs.Geometry.{file_sectors}
use Rattle.format.specs.Header.{header_of}
use Rattle.format.specs.Check.{check}
use Rattle.format.specs.Collapse.{map_of, normal_form, not_collapsible, still_open}
use Rattle.format.specs.Profile.{first_difference, profile_sizes_broken, profile_from, profile}
use Rattle.format.specs.declared.Header.{Header}
use Rattle.format.specs.declared.Kind.TheVariants.{Kdmv}
use Rattle.format.specs.declared.Refusal.TheVariants.{NotNormal}
use Rattle.laws.specs.Layers.{Layer}
use Rattle.laws.specs.NeverUsed.{SameSectors}
use Rattle.laws.specs.ProfileImages.{DifferAt, byte, first_ends, second_ends, FirstAt, LatePlace}
use Rattle.laws.proofs.HandedOn.{profile_handed}
use Rattle.laws.proofs.UsedAnswers.{header_accepted}
use Rattle.laws.proofs.NeverUsed.{never_used, never_used_check}
use Rattle.laws.proofs.NeverUsedCollapse.{layer_same, map_same}
use Rattle.laws.proofs.CollapsedMaps.{layout_same}
use Rattle.laws.proofs.CollapsedImages.{normal_is, normal_length}
use Rattle.laws.proofs.ProfilePlace.{place_first, place_only}
use Rattle.laws.proofs.ProfileMet.{accepted_profile, place_profile, own_sizes}
use Rattle.std.specs.Prelude.{Result, Ok, Err}
use Rattle.format.specs.declared.Shape.{Shape}
use Rattle.format.specs.declared.Refusal.{Refusal}

-- the rules before the form
abbrev early_broken : Header → Bool
early_broken h = not_collapsible h || (still_open h || profile_sizes_broken h)

early_answer : (x y z : Bool) (a b d v w : Result Shape Refusal) → (x || (y || z)) ≡ true
    → pick x a (pick y b (pick z d v)) ≡ pick x a (pick y b (pick z d w))
unfolding pick
early_answer true y z a b d v w e = refl
early_answer false true z a b d v w e = refl
early_answer false false true a b d v w e = refl
early_answer false false false a b d v w e = absurd (false≢true e)

-- an image of part of a sector at its end is not its own normal form
uneven : {c size : ℕ} {s : List ℕ} → Layer c size s → 0 < length s % 512 → s ≡ normal_form s → ⊥
uneven p h e = omega (arith, ap length e ∙ normal_length p)

-- a place below 512 x F is that of both
module _ (s t : List ℕ) (both : SameSectors s t) (form : List ℕ) (n : ℕ) (low : n < 512 * file_sectors s) where
  early_differ : DifferAt s form n → DifferAt t form n
  early_differ (byte l h q) = byte (rw (← both.long) l) h (λ e. q (both.same n low ∙ e))
  early_differ (first_ends e h) = absurd (omega arith)
  early_differ (second_ends e h) = second_ends e (rw (← both.long) h)

  early_first : FirstAt s form n → FirstAt t form n
  early_first f = record {
    alike = λ i l h. sym (both.same i (omega arith)) ∙ f.alike i l h;
    differ = early_differ f.differ;
  }

turned : {s t : List ℕ} → SameSectors s t → SameSectors t s
turned both = record {
  long = sym both.long;
  some = rw (← both.long) both.some;
  same = λ i l. sym (both.same i (rw both.long l));
}

module _ (s t : List ℕ) (both : SameSectors s t) where
  -- ---- an image that is all but its own normal form
  module _ {c : ℕ} (p : Layer c 128 s) (m : c % 128 ≡ 0) (part : 0 < length s % 512) where
    form_same : normal_form s ≡ normal_form t
    form_same =
        normal_is p ∙ layout_same Kdmv c 128 (map_of s) (map_of t) (map_same s t both p)
        ∙ sym (normal_is (layer_same s t both p))

    first_own : FirstAt s (normal_form s) (first_difference s (normal_form s))
    first_own = place_first s (normal_form s) (uneven p part)

    first_other : FirstAt t (normal_form s) (first_difference t (normal_form s))
    first_other =
        place_first t (normal_form s) (λ e. uneven (layer_same s t both p) (rw (← both.long) part) (e ∙ form_same))

    own_place : profile s ≡ Err (NotNormal (first_difference s (normal_form s)))
    own_place = place_profile p m _ first_own

    other_place : profile t ≡ Err (NotNormal (first_difference t (normal_form s)))
    other_place =
        place_profile (layer_same s t both p) m _
        (subst (λ (form : List ℕ). FirstAt t form (first_difference t (normal_form s))) form_same first_other)

    one_place : first_difference s (normal_form s) ≡ first_difference t (normal_form s) → profile s ≡ profile t
    one_place e = own_place ∙ ap (λ (n : ℕ). Err (NotNormal n)) e ∙ sym other_place

    places : (profile s ≡ profile t) ⊎ ((LatePlace s) × (LatePlace t))
    places =
        ⊎_elim (λ l. inl (one_place (place_only (early_first s t both _ _ l first_own) first_other)))
        (λ l.
        ⊎_elim (λ k. inl (one_place (place_only first_own (early_first t s (turned both) _ _ k first_other))))
        (λ k. inr ((_, own_place, l), (_, other_place, k)))
        (lt_or_ge _ (512 * file_sectors t)))
        (lt_or_ge _ (512 * file_sectors s))

  -- ---- by the check's answer
  checked : (a : Result Shape Refusal) → check s ≡ a → 0 < length s % 512
      → (profile s ≡ profile t) ⊎ ((LatePlace s) × (LatePlace t))
  unfolding profile_from
  checked (Err r) e part = inl (profile_handed s r e ∙ sym (profile_handed t r (sym (never_used_check s t both) ∙ e)))
  checked (Ok sizes) e part =
      let h = header_accepted s t (never_used s t both) sizes.capacity sizes.grain_size e in
      let f = sym (never_used_check s t both) ∙ e in
      ⊎_elim
      (λ b.
      inl
      (accepted_profile s sizes.capacity sizes.grain_size e
      ∙ early_answer _ _ _ _ _ _ _ _ b
      ∙ ap (λ (k : Header). profile_from k t (normal_form t)) h
      ∙ sym (accepted_profile t sizes.capacity sizes.grain_size f)))
      (λ b.
      let n = or_no (not_collapsible (header_of s)) _ b in
      let o = or_no (still_open (header_of s)) _ n.1 in
      let p = own_sizes s sizes.capacity sizes.grain_size e n.0 o.0 o.1 in
      places p.0 p.1 part)
      (true_or_false (early_broken (header_of s)))

  pub never_used_profile : (profile s ≡ profile t) ⊎ ((LatePlace s) × (LatePlace t))
  never_used_profile =
      ⊎_elim (λ l. checked (check s) refl l)
      (λ l. inl (ap profile (ext_get_or 0 s t both.long (λ i b. both.same i (omega arith)))))
      (lt_or_ge 0 (length s % 512))
