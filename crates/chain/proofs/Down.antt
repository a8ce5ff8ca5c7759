-- The loops from the top layer down, each premise as the code gives it: k layers are left, and they end at `end`.
use Prim.Native.Nat.{ℕ, suc, ◌+◌, ◌-◌, ◌≤◌, ◌<◌}
use mathlib.Core.Path.{◌≡◌, refl, sym, ◌∙◌}
use mathlib.Core.List.{List, [], ◌∷◌}
use mathlib.Core.Bool.{Bool, true, false, ◌||◌, or-true, or-false}
use mathlib.Core.Logic.{⊎_elim}
use native.Mathlib.Omega.{arith}
use lib.Dec.{leb}
use lib.ListN.{length, get_or}
use Rattle.base.specs.Pick.{pick}
use Rattle.base.proofs.Steps.{lt_or_ge}
use Rattle.format.specs.Header.{header_of, judge}
use Rattle.format.specs.Entries.{any_below}
use Rattle.format.specs.Source.{sector_lookup}
use Rattle.format.specs.Chain.{lengths_sum, layer_at, if_known, headers_down, unlike, unless_absent, walk_down, walk}
use Rattle.format.specs.declared.Header.{Header}
use Rattle.format.specs.declared.Source.{Source}
use Rattle.format.specs.declared.Source.TheVariants.{Absent, Zero, Stored, Packed}
use Rattle.format.specs.declared.Refusal.{Refusal}
use Rattle.format.specs.declared.Refusal.TheVariants.{SectorPast, LayersDiffer}
use Rattle.header.proofs.HeaderAnswered.{judged_header}
use Rattle.lengths.specs.Laid.{Laid, Ends}
use Rattle.chain.specs.LayerSteps.{HeadedFrom, step_of}
use Rattle.lengths.proofs.Sums.{layer_fits, ends_down}
use Rattle.std.specs.Prelude.{Result, Ok, Err, Option, Some, None}
use Rattle.format.specs.declared.LayerSource.{LayerSource}
use Rattle.format.specs.declared.LayerRefusal.{LayerRefusal}
use Rattle.format.specs.AnswerParts.{refused_at}

-- ---- the next layer
module _ (s l : List ℕ) (k end : ℕ) (e : Ends s l k end) (h : 0 < k) where
  pub ends_here : Ends s l (k - 1 + 1) end
  ends_here = let q : k - 1 + 1 ≡ k = omega arith in rw q e

  pub next_fits : get_or l (k - 1) 0 ≤ end
  next_fits = layer_fits s l (k - 1) end ends_here

  pub next_ends : Ends s l (k - 1) (end - get_or l (k - 1) 0)
  next_ends = ends_down s l (k - 1) end ends_here

-- ---- a test that is true of one of the layers, or of none
module _ (p : ℕ → Bool) (n k : ℕ) (w : any_below p n ≡ any_below p k) where
  some_last : (m : ℕ) → k ≡ suc m → any_below p n ≡ (any_below p m || p m)
  unfolding any_below
  some_last m q = w ∙ rw q

  some_next : 0 < k → any_below p n ≡ (any_below p (k - 1) || p (k - 1))
  some_next h = some_last (k - 1) (omega arith)

  pub some_here : {r : Bool} → 0 < k → r ≡ p (k - 1) → r ≡ true → true ≡ any_below p n
  some_here h e t = sym (some_next h ∙ rw (← e, t) (or-true (any_below p (k - 1))))

  pub some_below : {r : Bool} → 0 < k → r ≡ p (k - 1) → r ≡ false → any_below p n ≡ any_below p (k - 1)
  some_below h e f = some_next h ∙ rw (← e, f) (or-false (any_below p (k - 1)))

  pub some_end : k ≤ 0 → false ≡ any_below p n
  unfolding any_below
  some_end h = let q : k ≡ 0 = omega arith in sym (w ∙ rw q)

-- ---- headers
module _ (s l : List ℕ) (n k : ℕ) (a : Result LayerSource LayerRefusal) (w : headers_down s l n a ≡ headers_down s l k a)
    (h : 0 < k)
    (j : Result Header Refusal) (e : j ≡ judge (layer_at s l (k - 1))) where
  headers_last : (m : ℕ) → k ≡ suc m → headers_down s l n a ≡ if_known m (judge (layer_at s l m)) (headers_down s l m a)
  unfolding headers_down
  headers_last m q = w ∙ rw q

  headers_next : headers_down s l n a ≡ if_known (k - 1) j (headers_down s l (k - 1) a)
  headers_next = rw e (headers_last (k - 1) (omega arith))

  pub header_refused : (r : Refusal) → j ≡ Err r → refused_at (k - 1) r ≡ headers_down s l n a
  unfolding if_known
  header_refused r q = sym (headers_next ∙ rw q)

  pub header_known : (d : Header) → j ≡ Ok d → headers_down s l n a ≡ headers_down s l (k - 1) a
  unfolding if_known
  header_known d q = headers_next ∙ rw q

pub headed_down : (s l : List ℕ) (k : ℕ) (j : Result Header Refusal) (d : Header) → 0 < k → HeadedFrom s l k → j
    ≡ judge (layer_at s l (k - 1)) → j ≡ Ok d → HeadedFrom s l (k - 1)
headed_down s l k j d h f e q = record {
  known = λ i lo hi.
      ⊎_elim (λ b. let z : k - 1 ≡ i = omega arith in (d, rw (← z) (sym e ∙ q))) (λ g. f.known i g hi) (lt_or_ge i k);
}

-- a known header is the layer's, and there is no other kind
pub unlike_known : (s : List ℕ) (first h : Header) (a : Result Header Refusal) (r : Bool) → a ≡ judge s → a ≡ Ok h → r
    ≡ unlike first h → r ≡ unlike first (header_of s)
unlike_known s first h a r e q t = rw (← judged_header a s h e q) t

pub never_unknown : {A : Type 0} (x y : A) (s l : List ℕ) (k end : ℕ) (a : Result Header Refusal) (r : Refusal)
    → HeadedFrom s l 0
    → Ends s l (k + 1) end → a ≡ judge (layer_at s l k) → a ≡ Err r → x ≡ y
never_unknown x y s l k end a r f e p q =
    let t = f.known k (omega arith) (omega (arith, e.few)) in
    let z : ◌≡◌ {A = ℕ} 0 1 = cc t.1 in
    absurd (omega arith)

-- ---- the walk
unless_step : (k : ℕ) (f : Result Source Refusal) (a below : Result LayerSource LayerRefusal) → step_of k f ≡ Some a
    → unless_absent k f below ≡ a
unfolding step_of unless_absent
unless_step k (Err r) a below e = cc
unless_step k (Ok Absent) a below e = let z : ◌≡◌ {A = ℕ} 0 1 = cc in absurd (omega arith)
unless_step k (Ok Zero) a below e = cc
unless_step k (Ok (Stored f)) a below e = cc
unless_step k (Ok (Packed m n o)) a below e = cc

unless_below : (k : ℕ) (f : Result Source Refusal) (below : Result LayerSource LayerRefusal) → step_of k f ≡ None
    → unless_absent k f below ≡ below
unfolding step_of unless_absent
unless_below k (Err r) below e = let z : ◌≡◌ {A = ℕ} 0 1 = cc in absurd (omega arith)
unless_below k (Ok Absent) below e = refl
unless_below k (Ok Zero) below e = let z : ◌≡◌ {A = ℕ} 0 1 = cc in absurd (omega arith)
unless_below k (Ok (Stored f)) below e = let z : ◌≡◌ {A = ℕ} 0 1 = cc in absurd (omega arith)
unless_below k (Ok (Packed m n o)) below e = let z : ◌≡◌ {A = ℕ} 0 1 = cc in absurd (omega arith)

module _ (s l : List ℕ) (x n k : ℕ) (w : walk_down s l x n ≡ walk_down s l x k) where
  walk_last : (m : ℕ) → k ≡ suc m → walk_down s l x n ≡ unless_absent m (sector_lookup (layer_at s l m) x) (walk_down s l x m)
  unfolding walk_down
  walk_last m q = w ∙ rw q

  walk_next : 0 < k → walk_down s l x n ≡ unless_absent (k - 1) (sector_lookup (layer_at s l (k - 1)) x)
      (walk_down s l x (k - 1))
  walk_next h = walk_last (k - 1) (omega arith)

  pub walk_answer : (st : Option (Result LayerSource LayerRefusal)) (a : Result LayerSource LayerRefusal) → 0 < k → st
      ≡ step_of (k - 1) (sector_lookup (layer_at s l (k - 1)) x) → st
      ≡ Some a → a ≡ walk_down s l x n
  walk_answer st a h e q = sym (walk_next h ∙ unless_step (k - 1) _ a _ (sym e ∙ q))

  pub walk_below : (st : Option (Result LayerSource LayerRefusal)) → 0 < k → st
      ≡ step_of (k - 1) (sector_lookup (layer_at s l (k - 1)) x) → st ≡ None
      → walk_down s l x n ≡ walk_down s l x (k - 1)
  walk_below st h e q = walk_next h ∙ unless_below (k - 1) _ _ (sym e ∙ q)

  pub walk_end : k ≤ 0 → Ok (record { layer = 0; source = Absent }) ≡ walk_down s l x n
  unfolding walk_down
  walk_end h = let q : k ≡ 0 = omega arith in sym (w ∙ rw q)

-- ---- at an arm of a match
pub step_as : (k : ℕ) (z : Option (Result LayerSource LayerRefusal)) (r v : Result Source Refusal) → r ≡ v → z ≡ step_of k v
    → z ≡ step_of k r
step_as k z r v e t = rw e t

pub step_found : (k : ℕ) (z : Option (Result LayerSource LayerRefusal)) (r : Result Source Refusal) (a v : Source) → r ≡ Ok a
    → a ≡ v → z ≡ step_of k (Ok v) → z
    ≡ step_of k r
step_found k z r a v e q t = rw (e, q) t

pub looked_as : (z : Result Source Refusal) (s w : List ℕ) (x : ℕ) → z ≡ sector_lookup s x → s ≡ w → z ≡ sector_lookup w x
looked_as z s w x e q = rw q at e

-- ---- the first layer
pub first_ends : (s l : List ℕ) → Laid 16 s l → Ends s l (0 + 1) (get_or l 0 0)
unfolding lengths_sum
first_ends s [] z = absurd (omega (arith, z.some))
first_ends s (n ∷ l) z = record { few = omega arith; there = omega arith; inside = omega (arith, z.whole) }

-- ---- before and after the headers
pub headed_none : (s l : List ℕ) → HeadedFrom s l (length l)
headed_none s l = record { known = λ j lo hi. absurd (omega arith) }

pub headed_all : (s l : List ℕ) (k : ℕ) → k ≤ 0 → HeadedFrom s l k → HeadedFrom s l 0
headed_all s l k h f = let q : k ≡ 0 = omega arith in rw q at f

pub headers_end : (s l : List ℕ) (n k : ℕ) (z a : Result LayerSource LayerRefusal) → headers_down s l n a
    ≡ headers_down s l k a → k ≤ 0 → z ≡ a → z
    ≡ headers_down s l n a
unfolding headers_down
headers_end s l n k z a w h e = let q : k ≡ 0 = omega arith in e ∙ sym (w ∙ rw q)

-- the walk, by the first layer's header
pub walk_as : (s l : List ℕ) (x : ℕ) (first : Header) (z : Result LayerSource LayerRefusal) → first ≡ header_of (layer_at s l 0)
    → z ≡ pick (any_below (λ k. unlike first (header_of (layer_at s l k))) (length l)) (refused_at 0 LayersDiffer)
    (pick (leb first.capacity x) (refused_at 0 SectorPast) (walk_down s l x (length l)))
    → z ≡ walk s l x
unfolding walk
walk_as s l x first z e t = rw (← e) t
