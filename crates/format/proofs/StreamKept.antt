-- What the walk keeps: whole grains, one after the other, with ascending numbers below the number of grains.
use Prim.Native.Nat.{ℕ, zero, suc, ◌+◌, ◌-◌, ◌*◌, ◌/◌, ◌%◌, ◌≤◌, ◌<◌}
use mathlib.Core.Path.{◌≡◌, refl}
use mathlib.Core.List.{List, [], ◌∷◌}
use mathlib.Core.Bool.{true, false, not}
use native.Mathlib.Omega.{arith}
use native.Mathlib.Nat.{div-add-mod'}
use lib.Dec.{ltb, leb, eqb}
use borrow.Author.Tests.{ltb-false, leb-false, le-leb, eqb-true, eqb-false, not-false}
use Rattle.base.specs.Pick.{pick}
use Rattle.base.proofs.Steps.{or_no, cond_all}
use Rattle.format.specs.Geometry.{file_sectors}
use Rattle.format.specs.Header.{grains_of}
use Rattle.format.specs.Entries.{marker_first, marker_size, grain_sectors}
use Rattle.format.specs.Areas.{area, ends_past}
use Rattle.format.specs.Stream.{if_whole, out_of_order, stream_grain, marker_type, stream_other, block_at, KeptGrain}
use Rattle.format.specs.Stream.{kept_grain}
use Rattle.format.specs.Stream.{walk_on, walk}
use Rattle.format.specs.declared.Header.{Header}
use Rattle.format.specs.declared.closing.Block.{Block}
use Rattle.format.specs.declared.closing.Block.TheVariants.{Stop, Other, Grain}
use Rattle.format.proofs.Entries.{some_sectors}
use Rattle.format.proofs.Geometry.{grain_of_lem}

-- a whole grain of a stream: what its marker says
pub record WholeGrain (s : List ℕ) (h : Header) (k : KeptGrain) : Type 0 where
  pub first : marker_first s k.sector ≡ k.number * h.grain_size
  pub some : marker_size s k.sector ≡ 0 → ⊥
  pub used : k.number < grains_of h
  pub takes : k.sectors ≡ grain_sectors s true h.grain_size k.sector
  pub one : 1 ≤ k.sectors
  pub here : k.sector + k.sectors ≤ file_sectors s

-- whole grains from sector p and from number `next` on
pub data Ascends (s : List ℕ) (h : Header) : ℕ → ℕ → List KeptGrain → Type 0 where
  none : {p next : ℕ} → Ascends s h p next []
  some : {p next : ℕ} {k : KeptGrain} {l : List KeptGrain} → p ≤ k.sector → next ≤ k.number → WholeGrain s h k
      → Ascends s h (k.sector + k.sectors) (k.number + 1) l → Ascends s h p next (k ∷ l)

-- what a block tells
abbrev pub Told : List ℕ → Header → ℕ → ℕ → Block → Type 0
Told s h p next Stop = Unit
Told s h p next (Other k) = (1 ≤ k) × (p + k ≤ file_sectors s)
Told s h p next (Grain g k) = (next ≤ g) × WholeGrain s h (kept_grain g p k)

module _ (s : List ℕ) (h : Header) (one : 1 ≤ h.grain_size) where
  module _ (p next : ℕ) where
    -- a block that is wholly there
    whole : (k : ℕ) (b : Block) → (p + k ≤ file_sectors s → Told s h p next b) → Told s h p next (if_whole s p k b)
    unfolding if_whole
    whole k b f =
        cond_all (Told s h p next) (ends_past (file_sectors s) (area p k)) Stop b (λ t. tt)
        (λ n. f (ltb-false (file_sectors s) (p + k) n))

    other_told : Told s h p next (stream_other s h p)
    other_told =
        cond_all (Told s h p next) (eqb (marker_type s p) 1) _ _ (λ t. whole 5 (Other 5) (λ e. (omega arith, e)))
        (λ n. cond_all (Told s h p next) (eqb (marker_type s p) 2) _ _
        (λ t. whole (1 + h.directory_sectors) _ (λ e. (omega arith, e))) (λ m. tt))

    -- a first sector in order is its grain's
    in_order : (first : ℕ) → out_of_order h next first ≡ false → (first ≡ first / h.grain_size * h.grain_size)
        × (first < h.capacity) × (next ≤ first / h.grain_size)
    in_order first e =
        let a = or_no (not (eqb (first % h.grain_size) 0)) _ e in
        let b = or_no (leb h.capacity first) (ltb (first / h.grain_size) next) a.1 in
        let m : first % h.grain_size ≡ 0 = eqb-true _ _ (not-false _ a.0) in
        (omega (arith, div-add-mod' first h.grain_size), leb-false _ _ b.0, ltb-false _ _ b.1)

    grain_told : eqb (marker_size s p) 0 ≡ false → Told s h p next (stream_grain s h p next)
    grain_told z =
        let k = grain_sectors s true h.grain_size p in
        whole k _
        (λ e. cond_all (Told s h p next) (out_of_order h next (marker_first s p)) Stop _ (λ t. tt)
        (λ n.
        let o = in_order (marker_first s p) n in (
          o.2,
          record {
            first = o.0;
            some = eqb-false _ _ z;
            used = grain_of_lem h.capacity h.grain_size one (marker_first s p) o.1;
            takes = refl;
            one = some_sectors s true h.grain_size p one;
            here = e;
          },
        )))

    pub block_told : Told s h p next (block_at s h p next)
    unfolding block_at
    block_told =
        cond_all (Told s h p next) (leb (file_sectors s) p) Stop _ (λ t. tt)
        (λ n. cond_all (Told s h p next) (eqb (marker_size s p) 0) _ _ (λ t. other_told) grain_told)

  -- from further on, from a lower number on
  pub from_lower_lem : (p q next : ℕ) {l : List KeptGrain} → q ≤ p → Ascends s h p next l → Ascends s h q next l
  from_lower_lem p q next b none = none
  from_lower_lem p q next b (some {k = k} e n w a) = let f : q ≤ k.sector = omega arith in some f n w a

  after : (b : Block) (p next : ℕ) (walked : ℕ → ℕ → List KeptGrain)
      → ((q m : ℕ) → Ascends s h q m (walked q m)) → Told s h p next b → Ascends s h p next (walk_on b p next walked)
  unfolding walk_on
  after Stop p next walked f t = none
  after (Other k) p next walked f t = from_lower_lem (p + k) p next (omega arith) (f (p + k) next)
  after (Grain g k) p next walked f t = some {p = p} {k = kept_grain g p k} (omega arith) t.0 t.1 (f (p + k) (g + 1))

  pub walk_ascends : (n p next : ℕ) → Ascends s h p next (walk s h n p next)
  unfolding walk
  walk_ascends zero p next = none
  walk_ascends (suc n) p next =
      after (block_at s h p next) p next (walk s h n) (walk_ascends n) (block_told p next)

  -- ---- blocks enough are all
  same_after : (b : Block) (p next : ℕ) (f g : ℕ → ℕ → List KeptGrain)
      → ((q m : ℕ) → p < q → f q m ≡ g q m) → Told s h p next b → walk_on b p next f ≡ walk_on b p next g
  unfolding walk_on
  same_after Stop p next f g e t = refl
  same_after (Other k) p next f g e t = e (p + k) next (omega arith)
  same_after (Grain n k) p next f g e t = rw (e (p + k) (n + 1) (omega (arith, t.1.one)))

  -- from the file's end on nothing is kept
  past_stops : (p next : ℕ) → file_sectors s ≤ p → block_at s h p next ≡ Stop
  unfolding block_at pick
  past_stops p next e = rw (le-leb (file_sectors s) p e)

  pub walk_enough : (m n p next : ℕ) → file_sectors s - p ≤ m → file_sectors s - p ≤ n → walk s h m p next ≡ walk s h n p next
  unfolding walk walk_on
  walk_enough zero zero p next a b = refl
  walk_enough zero (suc n) p next a b = rw (past_stops p next (omega arith))
  walk_enough (suc m) zero p next a b = rw (past_stops p next (omega arith))
  walk_enough (suc m) (suc n) p next a b =
      same_after (block_at s h p next) p next (walk s h m) (walk s h n)
      (λ q k l. walk_enough m n q k (omega arith) (omega arith)) (block_told p next)
