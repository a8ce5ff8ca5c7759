-- Two lists that agree in the sectors of each area of a list: so they do in the areas of its parts.
use Prim.Native.Nat.{ℕ, zero, suc, ◌*◌, ◌<◌}
use mathlib.Core.Path.{◌≡◌}
use mathlib.Core.List.{List, [], ◌∷◌, ◌++◌}
use mathlib.Core.Bool.{Bool, true}
use mathlib.Core.Logic.{⊎_elim}
use native.Mathlib.Omega.{arith}
use Rattle.base.specs.Bytes.{SameBytes}
use Rattle.base.specs.Pick.{pick}
use Rattle.base.specs.Rows.{rows}
use Rattle.base.proofs.Steps.{lt_or_ge}
use Rattle.format.specs.Areas.{Area, if_there, named}
use Rattle.format.specs.declared.Entry.TheVariants.{Sector}
use Rattle.laws.specs.SameFrame.{SameAreas}

module _ (s t : List ℕ) where
  -- two lists of areas, rows, one that may be there, and one that an entry names
  pub areas_both : (l m : List Area) → SameAreas s t (l ++ m) → (SameAreas s t l) × (SameAreas s t m)
  areas_both [] m h = (tt, h)
  areas_both (a ∷ l) m h = let r = areas_both l m h.1 in ((h.0, r.0), r.1)

  pub areas_row : (n : ℕ) (f : ℕ → List Area) → SameAreas s t (rows n f) → (k : ℕ) → k < n → SameAreas s t (f k)
  unfolding rows
  areas_row zero f h k l = absurd (omega arith)
  areas_row (suc n) f h k l =
      let r = areas_both (rows n f) (f n) h in
      ⊎_elim (λ b. areas_row n f r.0 k b) (λ b. let q : k ≡ n = omega arith in rw q r.1) (lt_or_ge k n)

  pub area_there : (there : Bool) (a : Area) → SameAreas s t (if_there there a) → there ≡ true
      → SameBytes s t (512 * a.first) (512 * a.sector_count)
  unfolding if_there pick
  area_there there a h e = (rw e at h).0

  pub area_named : (sectors : ℕ → ℕ) (e : ℕ) → SameAreas s t (named sectors (Sector e))
      → SameBytes s t (512 * e) (512 * sectors e)
  unfolding named
  area_named sectors e h = h.0
