-- Runs of the public call `collapse`: a chain of layers collapsed two neighbours at a time, each time into a lent output.
use Rattle.std.specs.Prelude.{ℕ, ◌≤◌, ◌≡◌, List, length, take}
use Rattle.format.specs.Layout.{layout_length}
use Rattle.format.specs.Collapse.{collapse, collapse_output}
use Rattle.laws.specs.Layers.{map_of_layers, Pairing, layer, pair, layers_of}
use Rattle.std.specs.Prelude.{Ok}

-- what is lent for a pairing: an output for each pair, with what it holds
pub data Outputs : Pairing → Type 0 where
  none : {s : List ℕ} → Outputs (layer s)
  lent : {below above : Pairing} → Outputs below → Outputs above → List ℕ → Outputs (pair below above)

-- a run, and the image that it leaves: a single layer as it is; else both sides are run, the call on what they left answers
-- that it has written `long` bytes, and the image is so many bytes of the output as it stands then
pub data Run : (t : Pairing) → Outputs t → List ℕ → Type 0 where
  given : {s : List ℕ} → Run (layer s) none s
  collapsing : {below above : Pairing} {p : Outputs below} {q : Outputs above} {lower upper : List ℕ} → Run below p lower
      → Run above q upper
      → (out : List ℕ) (long : ℕ)
      → collapse lower upper (length out) ≡ Ok long
      → Run (pair below above) (lent p q out) (take long (collapse_output lower upper out))

-- enough room at each step: the output is as long as the layout of the layers that come together there
abbrev pub LongEnough : ℕ → ℕ → {t : Pairing} → Outputs t → Type 0
LongEnough capacity grain_size none = Unit
LongEnough capacity grain_size (lent {below} {above} p q out) =
    LongEnough capacity grain_size p
    × LongEnough capacity grain_size q
    × (layout_length capacity grain_size (map_of_layers (layers_of (pair below above))) ≤ length out)
