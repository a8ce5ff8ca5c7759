-- In a collapsed image as many grains are stored as there are grains for which the chain's answer is stored, however the layers
-- were paired off.
use Prim.Native.Nat.{ℕ, ◌*◌, ◌/◌, ◌%◌, ◌≤◌, ◌<◌}
use native.Mathlib.Nat.{mul_comm, mul-div_right}
use lib.ListN.{length}
use Rattle.base.specs.SumsBelow.{sum_below}
use mathlib.Core.Path.{◌≡◌, refl, sym, ap, ◌∙◌}
use mathlib.Core.List.{List, [], ◌∷◌}
use Rattle.base.proofs.SumsBelow.{sum_same}
use Rattle.base.proofs.Rounding.{below_ceil}
use Rattle.format.specs.Geometry.{grains}
use Rattle.format.specs.Header.{header_of}
use Rattle.format.specs.Grains.{Grain, upper_unless_absent, grain_from, one_if_stored}
use Rattle.format.specs.Grains.Grain.{absent, zeroed, stored}
use Rattle.format.specs.Chain.{chain_lookup}
use Rattle.format.specs.declared.Entry.{Entry}
use Rattle.format.specs.declared.Entry.TheVariants.{Absent, Zero, Sector}
use Rattle.format.specs.declared.Source.{Source}
use Rattle.laws.specs.Layers.{Layer, Every, end_to_end, lengths_of, map_of_layers, Pairing, layers_of, paired_image}
use Rattle.laws.specs.Coverage.{own_entry, one_if_sector, stored_grains, upper_entry, chain_entry, one_if_source}
use Rattle.laws.specs.Coverage.{one_if_answered}
use Rattle.laws.proofs.CollapsedChain.{every_at, chain_walked}
use Rattle.laws.proofs.CollapsedLayers.{layer_sizes}
use Rattle.laws.proofs.LayoutNumbers.{some_size}
use Rattle.laws.proofs.CollapsedPairings.{pairing_map}
use Rattle.laws.proofs.CollapsedSectors.{sector_in, Tells, tells_absent, tells_zero, tells_stored}

-- ---- a grain of the map and the entry that it comes of
data SameKind : Grain → Entry → Type 0 where
  both_absent : SameKind absent Absent
  both_zero : SameKind zeroed Zero
  both_stored : {b : List ℕ} {e : ℕ} → SameKind (stored b) (Sector e)

one_kind : {m : Grain} {a : Entry} → SameKind m a → one_if_stored m ≡ one_if_sector a
unfolding one_if_stored one_if_sector
one_kind both_absent = refl
one_kind both_zero = refl
one_kind both_stored = refl

own_kind : (s : List ℕ) (c size g : ℕ) (a : Entry) → SameKind (grain_from s c size g a) a
unfolding grain_from
own_kind s c size g Absent = both_absent
own_kind s c size g Zero = both_zero
own_kind s c size g (Sector e) = both_stored

upper_kind : {m k : Grain} {a b : Entry} → SameKind m a → SameKind k b → SameKind (upper_unless_absent m k) (upper_entry a b)
unfolding upper_unless_absent upper_entry
upper_kind below both_absent = below
upper_kind below both_zero = both_zero
upper_kind below both_stored = both_stored

layers_kind : (l : List (List ℕ)) (g : ℕ) → SameKind (map_of_layers l g) (chain_entry l g)
unfolding map_of_layers chain_entry
layers_kind [] g = both_absent
layers_kind (s ∷ l) g =
    upper_kind (own_kind s (header_of s).capacity (header_of s).grain_size g (own_entry s g)) (layers_kind l g)

-- ---- the collapsed image
pub stored_as_chain : (c size : ℕ) (t : Pairing) → Every (Layer c size) (layers_of t)
    → stored_grains (grains c size) (own_entry (paired_image t)) ≡ stored_grains (grains c size) (chain_entry (layers_of t))
stored_as_chain c size t e =
    sum_same (grains c size) _ _
    (λ g h.
    let image = paired_image t in
    sym (one_kind (own_kind image (header_of image).capacity (header_of image).grain_size g (own_entry image g)))
    ∙ ap one_if_stored (pairing_map t e g h)
    ∙ one_kind (layers_kind (layers_of t) g))

-- ---- what a student counts: the answers of the chain lookup for the first sector of each grain
tells_one : {s : List ℕ} {a : Source} {m : Grain} → Tells s a m → one_if_source a ≡ one_if_stored m
unfolding one_if_source one_if_stored
tells_one tells_absent = refl
tells_one tells_zero = refl
tells_one (tells_stored e l) = refl

sector_one : (o : ℕ) (m : Grain) → one_if_stored (sector_in o m) ≡ one_if_stored m
unfolding sector_in one_if_stored
sector_one o absent = refl
sector_one o zeroed = refl
sector_one o (stored b) = refl

module _ (c size : ℕ) (l : List (List ℕ)) (e : Every (Layer c size) l) (some : 1 ≤ length l) (few : length l ≤ 16) where
  some_size_of : 1 ≤ size
  some_size_of = some_size (layer_sizes (every_at l e 0 some))

  starts_below : (g : ℕ) → g < grains c size → g * size < c
  unfolding grains
  starts_below g h = below_ceil c size some_size_of g h

  pub chain_counted :
      sum_below (λ g. one_if_answered (chain_lookup (end_to_end l) (lengths_of l) (g * size))) (grains c size)
      ≡ stored_grains (grains c size) (chain_entry l)
  unfolding one_if_answered
  chain_counted =
      sum_same (grains c size) _ _
      (λ g h.
      let x = g * size in
      let w = chain_walked l e some few x (starts_below g h) in
      let own : g * size / size ≡ g = ap (λ (y : ℕ). y / size) (mul_comm g size) ∙ mul-div_right g some_size_of in
      rw w.is
      (tells_one w.tells ∙ sector_one (x % size) (map_of_layers l (x / size)) ∙ rw own (one_kind (layers_kind l g))))
