-- The images that collapse takes, chains of them, and the ways to pair off a chain's layers.
use Rattle.std.specs.Prelude.{ℕ, ◌<◌, ◌≡◌, List, [], ◌∷◌, ◌++◌, false, length}
use Rattle.format.specs.Geometry.{grains}
use Rattle.format.specs.Header.{header_of}
use Rattle.format.specs.Check.{check}
use Rattle.format.specs.Grains.{Map, merge, all_absent}
use Rattle.format.specs.Collapse.{map_of, collapsed, not_collapsible, still_open}
use Rattle.format.specs.AnswerParts.{accepted_as}

-- an image that collapse takes: accepted, with this capacity and grain size, KDMV and uncompressed, and clean
pub record Layer (capacity grain_size : ℕ) (s : List ℕ) : Type 0 where
  pub accepted : check s ≡ accepted_as capacity grain_size
  pub collapsible : not_collapsible (header_of s) ≡ false
  pub clean : still_open (header_of s) ≡ false

-- two maps that agree on the grains that there are; an image whose grains are all absent has the grains of `all_absent`
abbrev pub SameGrains : ℕ → ℕ → Map → Map → Type 0
SameGrains capacity grain_size m k = (g : ℕ) → g < grains capacity grain_size → m g ≡ k g

-- P holds of every member of a list
pub data Every {A : Type 0} (P : A → Type 0) : List A → Type 0 where
  none : Every P []
  more : {x : A} {l : List A} → P x → Every P l → Every P (x ∷ l)

-- ---- layers, base first
-- end to end in one slice, and the list of their lengths
unfoldable pub end_to_end : List (List ℕ) → List ℕ
end_to_end [] = []
end_to_end (s ∷ l) = s ++ end_to_end l

unfoldable pub lengths_of : List (List ℕ) → List ℕ
lengths_of [] = []
lengths_of (s ∷ l) = length s ∷ lengths_of l

-- the map of them all: each over those before it
unfoldable pub map_of_layers : List (List ℕ) → Map
map_of_layers [] = all_absent
map_of_layers (s ∷ l) = merge (map_of s) (map_of_layers l)

-- ---- a way to pair off layers: two neighbours, each one layer or paired off already
pub data Pairing : Type 0 where
  layer : List ℕ → Pairing
  pair : Pairing → Pairing → Pairing

unfoldable pub layers_of : Pairing → List (List ℕ)
layers_of (layer s) = s ∷ []
layers_of (pair lower upper) = layers_of lower ++ layers_of upper

-- what comes of collapsing so, two at a time: `collapsed` is what the call writes (`collapse_output_lem`). A single layer
-- stays as
-- it is
unfoldable pub paired_image : Pairing → List ℕ
paired_image (layer s) = s
paired_image (pair lower upper) = collapsed (paired_image lower) (paired_image upper)
