-- A chain of layers that collapse takes: it is not refused, and tells what the topmost layer does that is not absent.
use Prim.Native.Nat.{ℕ, zero, suc, ◌/◌, ◌%◌, ◌≤◌, ◌<◌}
use mathlib.Core.Path.{◌≡◌, refl, sym, ap, ◌∙◌}
use mathlib.Core.Bool.{false}
use mathlib.Core.List.{List, [], ◌∷◌}
use native.Mathlib.Omega.{arith}
use lib.Dec.{leb}
use lib.ListN.{length, get_or, length-append}
use lib.Seq.{take-append_seam, drop-append-add}
use borrow.Author.Tests.{le-ltb, le-leb, lt-leb, eq-eqb, ne_eqb}
use Rattle.base.specs.Pick.{pick}
use Rattle.format.specs.Header.{header_of, judge}
use Rattle.format.specs.Chain.{lengths_sum, layer_at, lengths_broken, if_known, headers_down, layers_differ, unless_absent}
use Rattle.format.specs.Chain.{walk_down}
use Rattle.format.specs.Chain.{walk, chain_lookup}
use Rattle.format.specs.Grains.{Grain, absent, upper_unless_absent}
use Rattle.format.specs.Collapse.{map_of}
use Rattle.format.specs.declared.Source.{Source}
use Rattle.format.specs.declared.Source.TheVariants.{Absent, Zero, Stored}
use Rattle.format.specs.declared.LayerSource.{LayerSource}
use Rattle.format.specs.declared.Refusal.TheVariants.{SectorPast}
use Rattle.format.proofs.Picked.{pick_then, pick_else}
use Rattle.format.proofs.Entries.{no_some}
use Rattle.format.proofs.LayersAt.{like}
use Rattle.laws.specs.Layers.{Layer, Every, none, more, end_to_end, lengths_of, map_of_layers}
use Rattle.laws.proofs.ServedSectors.{accepted_good}
use Rattle.laws.proofs.CollapsedMaps.{onto_assoc, onto_nothing}
use Rattle.laws.proofs.CollapsedLayers.{layer_accepted, capacity_is, size_is}
use Rattle.laws.proofs.CollapsedSectors.{sector_in, sector_onto, Tells, tells_absent, tells_zero, tells_stored, Looked}
use Rattle.laws.proofs.CollapsedSectors.{looked}
use Rattle.std.specs.Prelude.{Result, Ok}
use Rattle.format.specs.declared.LayerRefusal.{LayerRefusal}
use Rattle.format.specs.AnswerParts.{refused_at}

-- ---- layers end to end
-- layer k is the k-th
pub layer_at_lem : (l : List (List ℕ)) (k : ℕ) → k < length l → layer_at (end_to_end l) (lengths_of l) k ≡ get_or l k []
unfolding end_to_end lengths_of lengths_sum
layer_at_lem [] k h = absurd (omega arith)
layer_at_lem (s ∷ l) zero h = take-append_seam s (end_to_end l)
layer_at_lem (s ∷ l) (suc k) h = rw (drop-append-add) (layer_at_lem l k (omega arith))

lengths_count : (l : List (List ℕ)) → length (lengths_of l) ≡ length l
unfolding lengths_of
lengths_count [] = refl
lengths_count (s ∷ l) = ap suc (lengths_count l)

lengths_sum_lem : (l : List (List ℕ)) → lengths_sum (lengths_of l) ≡ length (end_to_end l)
unfolding lengths_of end_to_end lengths_sum
lengths_sum_lem [] = refl
lengths_sum_lem (s ∷ l) = rw (length-append, lengths_sum_lem l)

pub every_at : {P : List ℕ → Type 0} (l : List (List ℕ)) → Every P l → (k : ℕ) → k < length l → P (get_or l k [])
every_at [] none k h = absurd (omega arith)
every_at (s ∷ l) (more p e) zero h = p
every_at (s ∷ l) (more p e) (suc k) h = every_at l e k (omega arith)

-- ---- the grain of n layers, by their numbers
unfoldable topmost : (ℕ → Grain) → ℕ → Grain
topmost f zero = absent
topmost f (suc n) = upper_unless_absent (topmost f n) (f n)

topmost_first : (f : ℕ → Grain) (n : ℕ) → topmost f (suc n) ≡ upper_unless_absent (f 0) (topmost (λ k. f (suc k)) n)
unfolding topmost upper_unless_absent
topmost_first f zero = onto_nothing (f 0)
topmost_first f (suc n) = rw (topmost_first f n) (onto_assoc (f 0) (topmost (λ k. f (suc k)) n) (f (suc n)))

topmost_stack : (o g : ℕ) (l : List (List ℕ))
    → topmost (λ k. sector_in o (map_of (get_or l k []) g)) (length l) ≡ sector_in o (map_of_layers l g)
unfolding topmost map_of_layers sector_in
topmost_stack o g [] = refl
topmost_stack o g (s ∷ l) =
    topmost_first (λ k. sector_in o (map_of (get_or (s ∷ l) k []) g)) (length l)
    ∙ rw (topmost_stack o g l, sector_onto o (map_of s g) (map_of_layers l g))

-- ---- the walk
module _ (s lengths : List ℕ) where
  pub record Walked (w : Result LayerSource LayerRefusal) (g : Grain) : Type 0 where
    pub answer : LayerSource
    pub is : w ≡ Ok answer
    pub tells : Tells (layer_at s lengths answer.layer) answer.source g

  one_down : (k : ℕ) (a : Source) (g b : Grain) (w : Result LayerSource LayerRefusal) → Tells (layer_at s lengths k) a g
      → Walked w b
      → Walked (unless_absent k (Ok a) w) (upper_unless_absent b g)
  unfolding unless_absent upper_unless_absent
  one_down k a g b w tells_absent q = q
  one_down k a g b w tells_zero q = record { answer = record { layer = k; source = Zero }; is = refl; tells = tells_zero }
  one_down k a g b w (tells_stored {a = n} e l) q =
      record { answer = record { layer = k; source = Stored n }; is = refl; tells = tells_stored e l }

  module _ (x : ℕ) (f : ℕ → Grain) where
    walked : (n : ℕ) → ((k : ℕ) → k < n → Looked (layer_at s lengths k) x (f k))
        → Walked (walk_down s lengths x n) (topmost f n)
    unfolding walk_down topmost
    walked zero h = record { answer = record { layer = 0; source = Absent }; is = refl; tells = tells_absent }
    walked (suc n) h =
        let here = h n (omega arith) in
        rw here.found (one_down n here.source (f n) _ _ here.tells (walked n (λ k b. h k (omega arith))))

  -- headers that are all known let the walk begin
  headers_known : (n : ℕ) (a : Result LayerSource LayerRefusal)
      → ((k : ℕ) → k < n → judge (layer_at s lengths k) ≡ Ok (header_of (layer_at s lengths k)))
      → headers_down s lengths n a ≡ a
  unfolding headers_down if_known
  headers_known zero a h = refl
  headers_known (suc n) a h = rw (h n (omega arith)) (headers_known n a (λ k b. h k (omega arith)))

-- ---- the chain
module _ {c size : ℕ} (l : List (List ℕ)) (e : Every (Layer c size) l) where
  module _ (some : 1 ≤ length l) (few : length l ≤ 16) (x : ℕ) where
    each : (k : ℕ) → k < length l → Layer c size (layer_at (end_to_end l) (lengths_of l) k)
    each k h = rw (layer_at_lem l k h) (every_at l e k h)

    lengths_kept : lengths_broken 16 (end_to_end l) (lengths_of l) ≡ false
    lengths_kept =
        rw (lengths_count l, ne_eqb (length l) 0 (omega arith), le-ltb 16 (length l) few, eq-eqb _ _ (lengths_sum_lem l))

    layers_like : layers_differ (end_to_end l) (lengths_of l) ≡ false
    layers_like =
        let base = each 0 some in
        rw (lengths_count l)
        (no_some _ (length l)
        (λ k h. like _ _ (capacity_is base ∙ sym (capacity_is (each k h))) (size_is base ∙ sym (size_is (each k h)))))

    -- nothing but 20 can refuse it
    chain_is :
        chain_lookup (end_to_end l) (lengths_of l) x
        ≡ pick (leb c x) (refused_at 0 SectorPast) (walk_down (end_to_end l) (lengths_of l) x (length l))
    unfolding chain_lookup walk
    chain_is =
        pick_else _ _ _ lengths_kept
        ∙ headers_known _ _ (length (lengths_of l)) _
        (λ k h. (accepted_good _ (layer_accepted (each k (rw (lengths_count l) at h)))).known)
        ∙ pick_else _ _ _ layers_like
        ∙ rw (capacity_is (each 0 some), lengths_count l)

    -- 20: sector at or past the end
    pub chain_past : c ≤ x → chain_lookup (end_to_end l) (lengths_of l) x ≡ refused_at 0 SectorPast
    chain_past past = chain_is ∙ pick_then _ _ _ (le-leb c x past)

    -- below it the topmost layer counts that is not absent
    pub chain_walked : x < c
        → Walked (end_to_end l) (lengths_of l) (chain_lookup (end_to_end l) (lengths_of l) x)
        (sector_in (x % size) (map_of_layers l (x / size)))
    chain_walked low =
        rw (chain_is, pick_else _ _ _ (lt-leb c x low), ← topmost_stack (x % size) (x / size) l)
        (walked _ _ x _ (length l) (λ k h. rw (← layer_at_lem l k h) (looked (each k h) x low)))
