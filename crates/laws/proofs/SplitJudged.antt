-- A disk of several files: an extent that serves one of its sectors serves each of them. So one sector's answer judges the
-- extent, and lookups in its file alone give the rest.
use Prim.Native.Nat.{ℕ, ◌<◌}
use mathlib.Core.Path.{◌≡◌, sym, ◌∙◌}
use mathlib.Core.List.{List}
use mathlib.Core.Bool.{◌||◌}
use mathlib.Core.Logic.{⊎_elim}
use native.Mathlib.Omega.{arith}
use lib.Dec.{eqb}
use Rattle.base.proofs.Steps.{true_or_false}
use Rattle.descriptor.specs.Extents.{FLAT, VMFS, SPARSE, ZERO}
use Rattle.descriptor.specs.declared.Extent.{Extent}
use Rattle.format.specs.declared.Refusal.TheVariants.{KindGone}
use Rattle.format.specs.declared.LayerSource.{LayerSource}
use Rattle.format.proofs.Picked.{pick_then, pick_else, passed}
use Rattle.disk.specs.Split.{in_plain, in_image, by_type, in_extent}
use Rattle.laws.proofs.SplitServed.{to_type, found_allowed, image_back, image_answer}
use Rattle.std.specs.Prelude.{Result, Ok}
use Rattle.disk.specs.declared.SplitRefusal.{SplitRefusal}
use Rattle.disk.specs.declared.SplitRefusal.TheVariants.{Image}
use Rattle.std.specs.Prelude.{Err}

pub record Served (answer : Result LayerSource SplitRefusal) : Type 0 where
  pub at : LayerSource
  pub found : answer ≡ Ok at

-- sector o is served; p is another of the line's sectors
module _ (s : List ℕ) (e : Extent) (i o p : ℕ) (low : p < e.sectors) (a : LayerSource)
    (found : in_extent s e i o ≡ Ok a) where
  -- the same answer, but for the sector
  plain_too : in_plain s e i o ≡ Ok a → Served (in_plain s e i p)
  unfolding in_plain
  plain_too q =
      let f = passed _ _ _ (Ok a) (λ q. let z : ◌≡◌ {A = ℕ} 0 1 = cc in omega arith) q in
      record { at = _; found = pick_else _ _ _ f.0 }

  image_too : in_image s e i o ≡ Ok a → Served (in_image s e i p)
  unfolding in_image
  image_too q =
      let f = image_back s e i o a found q in
      record {
        at = _;
        found =
            pick_else _ _ _ f.0
            ∙ image_answer s e i p (found_allowed s e i o a found) f.1.size f.1.accepted low;
      }

  -- by way of what it is here
  through : {answer other : Result LayerSource SplitRefusal} → answer ≡ other → Served other → Served answer
  through q k = record { at = k.at; found = q ∙ k.found }

  type_too : by_type s e i o ≡ Ok a → Served (by_type s e i p)
  unfolding by_type
  type_too q =
      ⊎_elim
      (λ z. record { at = a; found = pick_then _ _ _ z ∙ sym (pick_then _ _ _ z) ∙ q })
      (λ z.
      ⊎_elim
      (λ t. through (pick_else _ _ _ z ∙ pick_then _ _ _ t) (plain_too (sym (pick_else _ _ _ z ∙ pick_then _ _ _ t) ∙ q)))
      (λ t.
      ⊎_elim
      (λ k. through (pick_else _ _ _ z ∙ pick_else _ _ _ t ∙ pick_then _ _ _ k)
      (image_too (sym (pick_else _ _ _ z ∙ pick_else _ _ _ t ∙ pick_then _ _ _ k) ∙ q)))
      (λ k.
      let gone : Err (Image i KindGone) ≡ Ok a = sym (pick_else _ _ _ z ∙ pick_else _ _ _ t ∙ pick_else _ _ _ k) ∙ q in
      let y : ◌≡◌ {A = ℕ} 0 1 = cc in
      absurd (omega arith))
      (true_or_false (eqb e.kind SPARSE)))
      (true_or_false (eqb e.kind FLAT || eqb e.kind VMFS)))
      (true_or_false (eqb e.kind ZERO))

  pub each_served : Served (in_extent s e i p)
  unfolding in_extent
  each_served = let t = to_type s e i o a found in through (pick_else _ _ _ t.0) (type_too t.1)
