-- The stored grains of both layers, counted one after the other: each premise as the loop gives it.
use Prim.Native.Nat.{ℕ, ◌+◌, ◌≤◌}
use mathlib.Core.Path.{◌≡◌, ap, ◌∙◌}
use mathlib.Core.List.{List}
use native.Mathlib.Omega.{arith}
use Rattle.format.specs.Entries.{grain_entry}
use Rattle.format.specs.Grains.{Map, one_if_stored, stored_below}
use Rattle.format.specs.declared.Header.{Header}
use Rattle.layout.proofs.StoredGrains.{stored_more}
use Rattle.layers.specs.declared.GrainSource.{GrainSource}
use Rattle.layers.specs.TwoLayers.{source_from, stores, layered, Layers}
use Rattle.layers.proofs.Sources.{stores_count, source_grain}

pub count_all : (m : Map) (n g all c : ℕ) → n ≡ stored_below m g → all ≡ c → g ≤ all → all ≤ g → n ≡ stored_below m c
count_all m n g all c e q h l = let i : g ≡ c = omega arith in rw i at e

module _ (lower : List ℕ) (h : Header) (upper : List ℕ) (k : Header) (l : Layers lower h upper k) where
  pub count_more : (n r g : ℕ) (source : GrainSource) → n ≡ stored_below (layered lower h upper k) g
      → source ≡ source_from (grain_entry lower h g) (grain_entry upper k g)
      → r ≡ stores source → n + r ≡ stored_below (layered lower h upper k) (g + 1)
  count_more n r g source e q p =
      let s : stores source ≡ one_if_stored (layered lower h upper k g) =
      rw q (stores_count lower upper h.capacity h.grain_size g _ ∙ ap one_if_stored (source_grain lower h upper k l g)) in
      omega (arith, stored_more (layered lower h upper k) g)
