-- A collapsed image serves every sector as the chain of its layers does. Demand 3.
use Prim.Native.Nat.{ℕ, ◌/◌, ◌≤◌, ◌<◌}
use mathlib.Core.Path.{◌≡◌, refl, ap, ◌∙◌}
use mathlib.Core.List.{List, [], ◌∷◌, ◌++◌, append-nil}
use lib.Dec.{lit≤}
use lib.ListN.{length}
use Rattle.format.specs.Source.{sector_lookup, source_bytes, answer_bytes, read}
use Rattle.format.specs.Chain.{layer_at, chain_lookup}
use Rattle.format.specs.Collapse.{collapsed}
use Rattle.format.specs.Answers.{served, located, chained}
use Rattle.format.specs.declared.Source.{Source}
use Rattle.format.specs.declared.Source.TheVariants.{Absent, Zero, Stored, Packed}
use Rattle.format.specs.declared.Refusal.TheVariants.{SectorPast}
use Rattle.format.proofs.Geometry.{grain_of_lem}
use Rattle.laws.specs.Layers.{Layer, Every, none, more, end_to_end, lengths_of, Pairing, layer, pair, layers_of, paired_image}
use Rattle.laws.specs.Served.{SameSource, absent, zero, stored, ServedAs}
use Rattle.laws.proofs.ServedSectors.{past_end}
use Rattle.laws.proofs.LayoutNumbers.{some_size}
use Rattle.laws.proofs.CollapsedLayers.{layer_accepted, capacity_is, layer_sizes}
use Rattle.laws.proofs.CollapsedPairings.{some_layer, pairing_accepted, pairing_map}
use Rattle.laws.proofs.CollapsedSectors.{told_same, looked}
use Rattle.laws.proofs.CollapsedChain.{chain_past, chain_walked}
use Rattle.std.specs.Prelude.{Err}
use Rattle.format.specs.AnswerParts.{refused_at}

module _ {c size : ℕ} where
  -- any pairing of a chain's layers
  pub pairing_serves : (t : Pairing) → Every (Layer c size) (layers_of t) → length (layers_of t) ≤ 16 → (x : ℕ) → x < c
      → ServedAs (paired_image t) (end_to_end (layers_of t)) (lengths_of (layers_of t)) x
  pairing_serves t e few x low =
      let p = pairing_accepted t e in
      let i = looked p x low in
      let w = chain_walked (layers_of t) e (some_layer t) few x low in
      let g : x / size < _ = grain_of_lem c size (some_size (layer_sizes p)) x low in
      record {
        source = i.source;
        answer = w.answer;
        found = i.found;
        found_in = w.is;
        same = told_same (rw (pairing_map t e (x / size) g) at i.tells) w.tells;
      }

  -- at or past the end both are refused 20
  pub pairing_past : (t : Pairing) → Every (Layer c size) (layers_of t) → length (layers_of t) ≤ 16 → (x : ℕ) → c ≤ x
      → (sector_lookup (paired_image t) x ≡ Err SectorPast)
      × (chain_lookup (end_to_end (layers_of t)) (lengths_of (layers_of t)) x ≡ refused_at 0 SectorPast)
  pairing_past t e few x past =
      let p = pairing_accepted t e in (
        past_end (paired_image t) (layer_accepted p) x (rw (capacity_is p) past),
        chain_past (layers_of t) e (some_layer t) few x
            past,
      )

  -- two layers
  pub collapsed_serves : {lower upper : List ℕ} → Layer c size lower → Layer c size upper → (x : ℕ) → x < c
      → ServedAs (collapsed lower upper) (lower ++ upper) (length lower ∷ length upper ∷ []) x
  unfolding layers_of paired_image end_to_end lengths_of
  collapsed_serves {lower} {upper} p q x low =
      rw append-nil at (pairing_serves (pair (layer lower) (layer upper)) (more p (more q none)) (lit≤ tt) x low)

  pub collapsed_past : {lower upper : List ℕ} → Layer c size lower → Layer c size upper → (x : ℕ) → c ≤ x
      → (sector_lookup (collapsed lower upper) x ≡ Err SectorPast)
      × (chain_lookup (lower ++ upper) (length lower ∷ length upper ∷ []) x ≡ refused_at 0 SectorPast)
  unfolding layers_of paired_image end_to_end lengths_of
  collapsed_past {lower} {upper} p q x past =
      rw append-nil at (pairing_past (pair (layer lower) (layer upper)) (more p (more q none)) (lit≤ tt) x past)

-- ---- what it says of the bytes that are read, and in document 01's numbers
source_same : {s t : List ℕ} {a b : Source} → SameSource s t a b → source_bytes s a ≡ source_bytes t b
unfolding source_bytes
source_same absent = refl
source_same zero = refl
source_same (stored e l) = e

not_refused : (k : ℕ) (a : Source) → (served k a).number ≡ 0
not_refused k Absent = refl
not_refused k Zero = refl
not_refused k (Stored sector) = refl
not_refused k (Packed marker size o) = refl

kind_same : {s t : List ℕ} {a b : Source} (j k : ℕ) → SameSource s t a b → (served j a).kind ≡ (served k b).kind
kind_same j k absent = refl
kind_same j k zero = refl
kind_same j k (stored e l) = refl

module _ {image s lengths : List ℕ} {x : ℕ} (r : ServedAs image s lengths x) where
  -- the grain reader returns the bytes of the source in the layer that the chain names: 512, or none where it is absent or zero
  pub served_read : read image x ≡ source_bytes (layer_at s lengths r.answer.layer) r.answer.source
  unfolding answer_bytes source_bytes
  served_read = ap (answer_bytes image) r.found ∙ source_same r.same

  -- neither is refused, and the kind is the same
  pub served_kind : ((located (sector_lookup image x)).number ≡ 0)
      × ((chained (chain_lookup s lengths x)).number ≡ 0)
      × ((located (sector_lookup image x)).kind ≡ (chained (chain_lookup s lengths x)).kind)
  served_kind =
      rw (r.found, r.found_in) (not_refused 0 r.source, not_refused _ r.answer.source, kind_same 0 _ r.same)
