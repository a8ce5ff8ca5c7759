-- Collapse and normal form of accepted, uncompressed, clean KDMV images: demand 3, but for sectors and pairings.
use Prim.Native.Nat.{ℕ, ◌<◌}
use mathlib.Core.Path.{◌≡◌, sym, ◌∙◌}
use mathlib.Core.List.{List}
use lib.ListN.{length}
use Rattle.format.specs.Geometry.{grains}
use Rattle.format.specs.Grains.{merge, all_absent}
use Rattle.format.specs.Layout.{Fits, layout_of, layout_length}
use Rattle.format.specs.Collapse.{map_of, normal_form, collapsed}
use Rattle.format.specs.declared.Kind.TheVariants.{Kdmv}
use Rattle.format.proofs.Grains.{onto_self, onto_whole}
use Rattle.laws.specs.Layers.{Layer, SameGrains}
use Rattle.laws.proofs.LayoutNumbers.{Sizes}
use Rattle.laws.proofs.LayoutParts.{layout_length_lem}
use Rattle.laws.proofs.LayoutBack.{map_read}
use Rattle.laws.proofs.LayoutAccepted.{layout_layer}
use Rattle.laws.proofs.CollapsedMaps.{onto_nothing, nothing_onto, layout_same}
use Rattle.laws.proofs.CollapsedLayers.{capacity_is, size_is, layer_sizes, map_fits}

module _ {c size : ℕ} where
  -- ---- normal form
  module _ {s : List ℕ} (p : Layer c size s) where
    pub normal_is : normal_form s ≡ layout_of c size (map_of s)
    normal_is = rw (capacity_is p, size_is p)

    -- it is accepted, with the same capacity and grain size, and may be collapsed again
    pub normal_accepted : Layer c size (normal_form s)
    normal_accepted = rw normal_is (layout_layer (layer_sizes p) (map_of s) (map_fits p))

    -- each of its grains is the image's
    pub normal_map : (g : ℕ) → g < grains c size → map_of (normal_form s) g ≡ map_of s g
    normal_map = rw normal_is (λ g h. map_read Kdmv (layer_sizes p) (map_of s) (map_fits p) g h tt)

    pub normal_length : length (normal_form s) ≡ layout_length c size (map_of s)
    normal_length = rw normal_is (layout_length_lem Kdmv (layer_sizes p) (map_of s) (map_fits p))

  -- the normal form of a normal form is itself
  pub normal_normal : {s : List ℕ} → Layer c size s → normal_form (normal_form s) ≡ normal_form s
  normal_normal p = normal_is (normal_accepted p) ∙ layout_same Kdmv c size _ _ (normal_map p) ∙ sym (normal_is p)

  -- ---- collapse
  module _ {lower upper : List ℕ} (p : Layer c size lower) (q : Layer c size upper) where
    pub collapsed_is : collapsed lower upper ≡ layout_of c size (merge (map_of lower) (map_of upper))
    collapsed_is = rw (capacity_is p, size_is p)

    collapsed_fits : Fits c size (merge (map_of lower) (map_of upper))
    collapsed_fits g h = onto_whole c size g (map_of lower g) (map_of upper g) (map_fits p g h) (map_fits q g h)

    -- the result is accepted, with the same capacity and grain size, and may be collapsed again
    pub collapsed_accepted : Layer c size (collapsed lower upper)
    collapsed_accepted = rw collapsed_is (layout_layer (layer_sizes p) _ collapsed_fits)

    -- a grain is the upper's unless absent there, else the lower's
    pub collapsed_map : (g : ℕ) → g < grains c size → map_of (collapsed lower upper) g ≡ merge (map_of lower) (map_of upper) g
    collapsed_map = rw collapsed_is (λ g h. map_read Kdmv (layer_sizes p) _ collapsed_fits g h tt)

    pub collapsed_length : length (collapsed lower upper) ≡ layout_length c size (merge (map_of lower) (map_of upper))
    collapsed_length = rw collapsed_is (layout_length_lem Kdmv (layer_sizes p) _ collapsed_fits)

  -- it is in normal form
  pub collapsed_normal : {lower upper : List ℕ} → Layer c size lower → Layer c size upper
      → normal_form (collapsed lower upper) ≡ collapsed lower upper
  collapsed_normal p q =
      normal_is (collapsed_accepted p q) ∙ layout_same Kdmv c size _ _ (collapsed_map p q) ∙ sym (collapsed_is p q)

  -- an image over itself is its normal form
  pub collapsed_self : {s : List ℕ} → Layer c size s → collapsed s s ≡ normal_form s
  collapsed_self {s} p = collapsed_is p p ∙ layout_same Kdmv c size _ _ (λ g h. onto_self (map_of s g)) ∙ sym (normal_is p)

  -- so it is with an image whose grains are all absent, on either side
  module _ {s blank : List ℕ} (p : Layer c size s) (q : Layer c size blank) (none : SameGrains c size (map_of blank) all_absent)
    where
      pub collapsed_absent_below : collapsed blank s ≡ normal_form s
      collapsed_absent_below =
          collapsed_is q p ∙ layout_same Kdmv c size _ _ (λ g h. rw (none g h) (onto_nothing (map_of s g))) ∙ sym (normal_is p)

      pub collapsed_absent_above : collapsed s blank ≡ normal_form s
      collapsed_absent_above =
          collapsed_is p q ∙ layout_same Kdmv c size _ _ (λ g h. rw (none g h) (nothing_onto (map_of s g))) ∙ sym (normal_is p)

  -- and there is one, of all sizes that an image can have
  module _ (z : Sizes c size) where
    pub blank_accepted : Layer c size (layout_of c size all_absent)
    blank_accepted = layout_layer z all_absent (λ g h. tt)

    pub blank_map : SameGrains c size (map_of (layout_of c size all_absent)) all_absent
    blank_map g h = map_read Kdmv z all_absent (λ i b. tt) g h tt
