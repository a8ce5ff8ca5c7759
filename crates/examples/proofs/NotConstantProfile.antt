-- No constant answer meets the profile's contract: no bytes are refused, and a disk of one absent grain meets the profile.
use Prim.Native.Nat.{ℕ}
use mathlib.Core.Path.{◌≡◌, refl, ap, ◌∙◌}
use mathlib.Core.List.{List, []}
use native.Mathlib.Omega.{arith}
use Rattle.base.specs.Pick.{pick}
use Rattle.format.specs.Header.{judge_of}
use Rattle.format.specs.Check.{check_from}
use Rattle.format.specs.Grains.{all_absent}
use Rattle.format.specs.Layout.{layout_of}
use Rattle.format.specs.Collapse.{normal_form}
use Rattle.format.specs.Profile.{profile_if_accepted, profile}
use Rattle.format.specs.Answers.{verdict}
use Rattle.format.specs.declared.numbers.Verdict.{Verdict}
use Rattle.laws.specs.Layers.{Layer}
use Rattle.laws.proofs.LayoutNumbers.{Sizes}
use Rattle.laws.proofs.CollapsedLayers.{capacity_is}
use Rattle.laws.proofs.CollapsedImages.{normal_accepted, blank_accepted}
use Rattle.laws.proofs.ProfileMet.{meets_profile}
use Rattle.laws.proofs.ProfileImages.{normal_meets}
use Rattle.examples.proofs.NotConstant.{differ}
use Rattle.std.specs.Prelude.{Result}
use Rattle.format.specs.declared.Shape.{Shape}
use Rattle.format.specs.declared.Refusal.{Refusal}

one_grain_lem : Sizes 128 128
one_grain_lem = record {
  capacity = record { low = omega arith; high = omega arith };
  grain_size = record { low = omega arith; high = omega arith; power = (7, refl) };
}

blank : Layer 128 128 (layout_of 128 128 all_absent)
blank = blank_accepted one_grain_lem

nothing : (verdict (profile [])).capacity ≡ 0
unfolding pick judge_of check_from profile_if_accepted
nothing = refl

pub profile_varies : (r : Verdict) → ((s : List ℕ) → r ≡ verdict (profile s)) → ⊥
profile_varies =
    let met = ap (λ (a : Result Shape Refusal). (verdict a).capacity) (meets_profile (normal_meets blank refl)) in
    differ (λ s. verdict (profile s)) (λ (v : Verdict). v.capacity) (normal_form (layout_of 128 128 all_absent)) 128
    (omega arith)
    nothing (met ∙ capacity_is (normal_accepted blank))
