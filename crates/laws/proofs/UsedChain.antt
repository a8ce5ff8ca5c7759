-- The chain lookup of two slices is the same where each layer of the one agrees with that of the other in all that decides.
use Prim.Native.Nat.{ℕ, zero, suc, ◌≤◌, ◌<◌}
use mathlib.Core.Path.{◌≡◌, refl}
use mathlib.Core.List.{List}
use native.Mathlib.Omega.{arith}
use lib.Dec.{eqb}
use lib.ListN.{length}
use borrow.Author.Tests.{eqb-false}
use Rattle.base.proofs.Steps.{or_no, pick_both}
use Rattle.format.specs.Header.{header_of, judge}
use Rattle.format.specs.Source.{sector_lookup}
use Rattle.format.specs.Chain.{unlike, layer_at, if_known, headers_down, layers_differ, walk_down, walk, chain_lookup}
use Rattle.format.proofs.Entries.{some_same}
use Rattle.laws.specs.Unused.{SameUsed}
use Rattle.laws.proofs.UsedAnswers.{used_lookup}
use Rattle.std.specs.Prelude.{Result}
use Rattle.format.specs.declared.LayerSource.{LayerSource}
use Rattle.format.specs.declared.LayerRefusal.{LayerRefusal}

-- what a chain asks of a layer
pub record SameLayer (s t : List ℕ) : Type 0 where
  pub judged : (k : ℕ) (a : Result LayerSource LayerRefusal) → if_known k (judge s) a ≡ if_known k (judge t) a
  pub capacity : (header_of s).capacity ≡ (header_of t).capacity
  pub grain_size : (header_of s).grain_size ≡ (header_of t).grain_size
  pub looked : (x : ℕ) → sector_lookup s x ≡ sector_lookup t x

module _ (s t lengths : List ℕ) (long : length s ≡ length t)
    (each : (k : ℕ) → k < length lengths → SameLayer (layer_at s lengths k) (layer_at t lengths k)) where
  headers_same : (n : ℕ) → n ≤ length lengths → (a : Result LayerSource LayerRefusal) → headers_down s lengths n a
      ≡ headers_down t lengths n a
  unfolding headers_down
  headers_same zero l a = refl
  headers_same (suc n) l a =
      rw (headers_same n (omega arith) a) ((each n (omega arith)).judged n _)

  differ_same : 1 ≤ length lengths → layers_differ s lengths ≡ layers_differ t lengths
  unfolding unlike
  differ_same some =
      some_same _ _ (length lengths)
      (λ k l. rw ((each 0 some).capacity, (each 0 some).grain_size, (each k l).capacity, (each k l).grain_size))

  walk_down_same : (x n : ℕ) → n ≤ length lengths → walk_down s lengths x n ≡ walk_down t lengths x n
  unfolding walk_down
  walk_down_same x zero l = refl
  walk_down_same x (suc n) l =
      rw ((each n (omega arith)).looked x, walk_down_same x n (omega arith))

  walk_same : 1 ≤ length lengths → (x : ℕ) → walk s lengths x ≡ walk t lengths x
  unfolding walk
  walk_same some x = rw (differ_same some, (each 0 some).capacity, walk_down_same x (length lengths) (omega arith))

  pub layers_chain : (x : ℕ) → chain_lookup s lengths x ≡ chain_lookup t lengths x
  unfolding chain_lookup
  layers_chain x =
      rw (← long)
      (pick_both ◌≡◌ _ _ _ _ _ (λ q. refl)
      (λ n.
      let some = eqb-false (length lengths) 0 (or_no (eqb (length lengths) 0) _ n).0 in
      rw (walk_same (omega arith) x, headers_same (length lengths) (omega arith))))

used_layer : (s t : List ℕ) → SameUsed s t → SameLayer s t
used_layer s t both =
    record {
      judged = λ k a. rw both.judged;
      capacity = both.capacity;
      grain_size = both.grain_size;
      looked = used_lookup s t both;
    }

pub used_chain : (s t lengths : List ℕ) → length s ≡ length t
    → ((k : ℕ) → k < length lengths → SameUsed (layer_at s lengths k) (layer_at t lengths k))
    → (x : ℕ) → chain_lookup s lengths x ≡ chain_lookup t lengths x
used_chain s t lengths long each = layers_chain s t lengths long (λ k l. used_layer _ _ (each k l))
