-- Any way to pair off the same layers collapses to the same bytes. Demand 3.
use Prim.Native.Nat.{ℕ, ◌≤◌}
use mathlib.Core.Path.{◌≡◌, sym, ap, ◌∙◌}
use mathlib.Core.List.{List, [], ◌∷◌, ◌++◌}
use native.Mathlib.Omega.{arith}
use lib.ListN.{length, get_or, length-append}
use Rattle.format.specs.Grains.{merge}
use Rattle.format.specs.Layout.{layout_of}
use Rattle.format.specs.Collapse.{map_of}
use Rattle.format.specs.declared.Kind.TheVariants.{Kdmv}
use Rattle.laws.specs.Layers.{Layer, SameGrains, Every, none, more, map_of_layers, Pairing, layer, pair, layers_of}
use Rattle.laws.specs.Layers.{paired_image}
use Rattle.laws.proofs.CollapsedMaps.{nothing_onto, merge_assoc, merge_nothing, layout_same}
use Rattle.laws.proofs.CollapsedImages.{collapsed_is, collapsed_accepted, collapsed_map}

-- ---- what holds of every layer
module _ {P : List ℕ → Type 0} where
  only : {s : List ℕ} → Every P (s ∷ []) → P s
  only (more p none) = p

  pub front : (l k : List (List ℕ)) → Every P (l ++ k) → Every P l
  front [] k e = none
  front (s ∷ l) k (more p e) = more p (front l k e)

  pub back : (l k : List (List ℕ)) → Every P (l ++ k) → Every P k
  back [] k e = e
  back (s ∷ l) k (more p e) = back l k e

-- ---- layers put together
stack_append : (l k : List (List ℕ)) → map_of_layers (l ++ k) ≡ merge (map_of_layers l) (map_of_layers k)
unfolding map_of_layers
stack_append [] k = sym (merge_nothing (map_of_layers k))
stack_append (s ∷ l) k = ap (merge (map_of s)) (stack_append l k)
    ∙ sym (merge_assoc (map_of s) (map_of_layers l) (map_of_layers k))

pub some_layer : (t : Pairing) → 1 ≤ length (layers_of t)
unfolding layers_of
some_layer (layer s) = omega arith
some_layer (pair a b) = rw length-append (omega (arith, some_layer a))

module _ {c size : ℕ} where
  -- the image of a pairing may be collapsed with others of its sizes
  pub pairing_accepted : (t : Pairing) → Every (Layer c size) (layers_of t) → Layer c size (paired_image t)
  unfolding layers_of paired_image
  pairing_accepted (layer s) e = only e
  pairing_accepted (pair a b) e =
      collapsed_accepted (pairing_accepted a (front (layers_of a) _ e)) (pairing_accepted b (back (layers_of a) _ e))

  -- its map is that of the layers
  pub pairing_map : (t : Pairing) → Every (Layer c size) (layers_of t)
      → SameGrains c size (map_of (paired_image t)) (map_of_layers (layers_of t))
  unfolding layers_of paired_image map_of_layers
  pairing_map (layer s) e g h = sym (nothing_onto (map_of s g))
  pairing_map (pair a b) e g h =
      let p = front (layers_of a) _ e in
      let q = back (layers_of a) _ e in
      collapsed_map (pairing_accepted a p) (pairing_accepted b q) g h
      ∙ rw (pairing_map a p g h, pairing_map b q g h, stack_append (layers_of a) (layers_of b))

  -- from two layers on it is the layout of that map
  pub pairing_is : (a b : Pairing) → Every (Layer c size) (layers_of (pair a b))
      → paired_image (pair a b) ≡ layout_of c size (map_of_layers (layers_of (pair a b)))
  unfolding layers_of paired_image
  pairing_is a b e =
      let p = front (layers_of a) _ e in
      let q = back (layers_of a) _ e in
      collapsed_is (pairing_accepted a p) (pairing_accepted b q)
      ∙ layout_same Kdmv c size _ _
      (λ g h. rw (pairing_map a p g h, pairing_map b q g h, stack_append (layers_of a) (layers_of b)))

  -- so the pairing makes no difference to the bytes
  pub pairings_alike : (t u : Pairing) → Every (Layer c size) (layers_of t) → layers_of t ≡ layers_of u → paired_image t
      ≡ paired_image u
  unfolding layers_of paired_image
  pairings_alike (layer s) (layer r) w e = ap (λ (l : List (List ℕ)). get_or l 0 []) e
  pairings_alike (layer s) (pair a b) w e =
      absurd (omega (arith, rw length-append at (ap length e), some_layer a, some_layer b))
  pairings_alike (pair a b) (layer s) w e =
      absurd (omega (arith, rw length-append at (ap length e), some_layer a, some_layer b))
  pairings_alike (pair a b) (pair d f) w e =
      pairing_is a b w ∙ ap (λ (l : List (List ℕ)). layout_of c size (map_of_layers l)) e ∙ sym (pairing_is d f (rw e at w))
