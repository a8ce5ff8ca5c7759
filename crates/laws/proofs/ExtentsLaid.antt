-- Extents that lie end to end: which of them holds a sector, and what a search through them finds.
use Prim.Native.Nat.{ℕ, zero, suc, ◌+◌, ◌≤◌, ◌<◌}
use mathlib.Core.Path.{◌≡◌, refl, sym, ap, ◌∙◌}
use mathlib.Core.List.{List, [], ◌∷◌, ◌++◌}
use mathlib.Core.Bool.{true, false}
use mathlib.Core.Logic.{⊎_elim}
use native.Mathlib.Omega.{arith}
use native.Mathlib.Nat.{not-suc-le-zero, le_of_suc-le-suc}
use lib.ListN.{length, get_or, take}
use borrow.Author.Tests.{leb-true, ltb-true, le-leb, lt-ltb, le-ltb}
use Rattle.base.specs.Pick.{pick}
use Rattle.base.proofs.Steps.{and_yes, lt_or_ge}
use Rattle.descriptor.specs.declared.Extent.{Extent}
use Rattle.descriptor.specs.Descriptor.{no_extent}
use Rattle.descriptor.specs.Records.{holding, found_at, not_found, found_from}

-- ---- what is said
-- the sum of the extents' sectors
abbrev pub sectors_of : List Extent → ℕ
sectors_of [] = 0
sectors_of (e ∷ es) = e.sectors + sectors_of es

-- exactly one of the extents holds the sector: its number, from 0
pub record Holder (es : List Extent) (sector : ℕ) : Type 0 where
  pub number : ℕ
  pub inside : number < length es
  pub held : holding (get_or es number no_extent) sector ≡ true
  pub only : (other : ℕ) → other < length es → holding (get_or es other no_extent) sector ≡ true → other ≡ number

-- from the sector `from` on, each extent begins where the one before it ended, the last one at `to`, and none is empty
abbrev pub Laid : ℕ → List Extent → ℕ → Type 0
Laid from [] to = from ≡ to
Laid from (e ∷ es) to = (e.first ≡ from) × ((0 < e.sectors) × Laid (from + e.sectors) es to)

-- ---- sums
pub laid_more : (from to : ℕ) (es : List Extent) (e : Extent)
    → Laid from es to
    → e.first ≡ to
    → 0 < e.sectors
    → Laid from (es ++ e ∷ []) (to + e.sectors)
laid_more from to [] e p q h = (q ∙ sym p, (h, ap (λ (n : ℕ). n + e.sectors) p))
laid_more from to (x ∷ es) e p q h = (p.0, (p.1.0, laid_more (from + x.sectors) to es e p.1.1 q h))

pub laid_sum : (from to : ℕ) (es : List Extent) → Laid from es to → from + sectors_of es ≡ to
laid_sum from to [] p = omega (arith, p)
laid_sum from to (e ∷ es) p = omega (arith, laid_sum (from + e.sectors) to es p.1.1)

pub laid_first : (from to : ℕ) (es : List Extent) (i : ℕ)
    → Laid from es to
    → i < length es
    → (get_or es i no_extent).first ≡ from + sectors_of (take i es)
laid_first from to [] i p h = absurd (not-suc-le-zero h)
laid_first from to (e ∷ es) zero p h = omega (arith, p.0)
laid_first from to (e ∷ es) (suc i) p h = omega (arith, laid_first (from + e.sectors) to es i p.1.1 (le_of_suc-le-suc h))

laid_up : (from to : ℕ) (es : List Extent) → Laid from es to → from ≤ to
laid_up from to es p = omega (arith, laid_sum from to es p)

-- ---- one extent
module _ (e : Extent) (sector : ℕ) where
  is_held : e.first ≤ sector → sector < e.first + e.sectors → holding e sector ≡ true
  is_held h k = rw (le-leb _ _ h, lt-ltb _ _ k)

  held_after : e.first ≤ sector → e.first + e.sectors ≤ sector → holding e sector ≡ false
  held_after h k = rw (le-leb _ _ h, le-ltb _ _ k)

  held_inside : holding e sector ≡ true → (e.first ≤ sector) × (sector < e.first + e.sectors)
  held_inside t = let both = and_yes _ _ t in (leb-true _ _ both.0, ltb-true _ _ both.1)

-- ---- all of them
-- those that begin behind the sector do not hold it
none_before : (from to : ℕ) (es : List Extent) (sector i : ℕ)
    → Laid from es to
    → sector < from
    → i < length es
    → holding (get_or es i no_extent) sector ≡ true
    → ⊥
none_before from to [] sector i p h l t = not-suc-le-zero l
none_before from to (e ∷ es) sector zero p h l t = let k = held_inside e sector t in omega (arith, p.0, k.0)
none_before from to (e ∷ es) sector (suc i) p h l t =
    none_before (from + e.sectors) to es sector i p.1.1 (omega arith) (le_of_suc-le-suc l) t

-- a search for a sector at or past the end finds none of them
pub none_past : (from to : ℕ) (es : List Extent) (sector k : ℕ)
    → Laid from es to
    → to ≤ sector
    → found_from es k sector ≡ not_found
unfolding found_from pick
none_past from to [] sector k p h = refl
none_past from to (e ∷ es) sector k p h =
    let up = laid_up (from + e.sectors) to es p.1.1 in
    rw (held_after e sector (omega (arith, p.0)) (omega (arith, p.0)))
    (none_past (from + e.sectors) to es sector (k + 1) p.1.1 h)

-- the one that holds a sector, and that a search through them finds it, whatever records follow them
pub record Met (es : List Extent) (sector : ℕ) : Type 0 where
  pub holder : Holder es sector
  pub found : (after : List Extent) (k : ℕ) → found_from (es ++ after) k sector ≡ found_at (k + holder.number)

module _ (from to : ℕ) (e : Extent) (es : List Extent) (sector : ℕ) (p : Laid from (e ∷ es) to) (h : from ≤ sector) where
  met_here : sector < from + e.sectors → Met (e ∷ es) sector
  unfolding found_from pick
  met_here l =
      let t : holding e sector ≡ true = is_held e sector (omega (arith, p.0)) (omega (arith, p.0)) in
      record {
        holder = record { number = 0; inside = omega arith; held = t; only = only };
        found = λ after k. rw t (ap found_at (omega arith));
      }
    where
      only : (other : ℕ) → other < length (e ∷ es) → holding (get_or (e ∷ es) other no_extent) sector ≡ true → other ≡ 0
      only zero g t = refl
      only (suc i) g t = absurd (none_before (from + e.sectors) to es sector i p.1.1 l (le_of_suc-le-suc g) t)

  met_later : from + e.sectors ≤ sector → Met es sector → Met (e ∷ es) sector
  unfolding found_from pick
  met_later l m =
      record {
        holder = record {
          number = suc m.holder.number;
          inside = omega (arith, m.holder.inside);
          held = m.holder.held;
          only = only;
        };
        found = λ after k. rw out (m.found after (k + 1) ∙ ap found_at (omega arith));
      }
    where
      out : holding e sector ≡ false
      out = held_after e sector (omega (arith, p.0)) (omega (arith, p.0))

      only : (other : ℕ)
          → other < length (e ∷ es)
          → holding (get_or (e ∷ es) other no_extent) sector ≡ true
          → other ≡ suc m.holder.number
      only zero g t = let k = held_inside e sector t in absurd (omega (arith, p.0, k.1))
      only (suc i) g t = ap suc (m.holder.only i (le_of_suc-le-suc g) t)

pub meets : (from to : ℕ) (es : List Extent) (sector : ℕ) → Laid from es to → from ≤ sector → sector < to → Met es sector
meets from to [] sector p h k = absurd (omega (arith, p))
meets from to (e ∷ es) sector p h k =
    ⊎_elim (λ l. met_here from to e es sector p h l)
    (λ l. met_later from to e es sector p h l (meets (from + e.sectors) to es sector p.1.1 l k))
    (lt_or_ge sector (from + e.sectors))
