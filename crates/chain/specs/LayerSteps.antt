-- What a chain has once its headers were judged, and a step of the walk down its layers.
use Rattle.std.specs.Prelude.{ℕ, ◌≤◌, ◌<◌, ◌≡◌, List, length}
use Rattle.format.specs.Header.{judge}
use Rattle.format.specs.Chain.{layer_at}
use Rattle.format.specs.declared.Header.{Header}
use Rattle.format.specs.declared.Source.TheVariants.{Absent, Zero, Stored, Packed}
use Rattle.std.specs.Prelude.{Result, Ok, Err, Option, Some, None}
use Rattle.format.specs.declared.Source.{Source}
use Rattle.format.specs.declared.LayerSource.{LayerSource}
use Rattle.format.specs.declared.LayerRefusal.{LayerRefusal}
use Rattle.format.specs.declared.Refusal.{Refusal}
use Rattle.format.specs.AnswerParts.{refused_at}

-- the headers of the layers from k on are known
pub record HeadedFrom (s lengths : List ℕ) (k : ℕ) : Type 0 where
  pub known : (j : ℕ) → k ≤ j → j < length lengths → (h : Header) × (judge (layer_at s lengths j) ≡ Ok h)

-- what a layer says of a sector: ask the layer below, or answer
unfoldable pub step_of : ℕ → Result Source Refusal → Option (Result LayerSource LayerRefusal)
step_of k (Err r) = Some (refused_at k r)
step_of k (Ok Absent) = None
step_of k (Ok Zero) = Some (Ok (record { layer = k; source = Zero }))
step_of k (Ok (Stored sector)) = Some (Ok (record { layer = k; source = Stored sector }))
step_of k (Ok (Packed marker size o)) = Some (Ok (record { layer = k; source = Packed marker size o }))
