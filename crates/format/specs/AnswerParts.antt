-- Answers of several parts, each as the one term that a call gives.
use Rattle.std.specs.Prelude.{ℕ, Result, Ok, Err}
use Rattle.format.specs.declared.Refusal.{Refusal}
use Rattle.format.specs.declared.Shape.{Shape}
use Rattle.format.specs.declared.LayerSource.{LayerSource}
use Rattle.format.specs.declared.LayerRefusal.{LayerRefusal}
use Rattle.format.specs.declared.closing.Kept.{Kept}

-- the check's: accepted, with capacity and grain size
abbrev pub accepted_as : ℕ → ℕ → Result Shape Refusal
accepted_as capacity grain_size = Ok (record { capacity = capacity; grain_size = grain_size })

-- the chain lookup's: refused at a layer
abbrev pub refused_at : ℕ → Refusal → Result LayerSource LayerRefusal
refused_at layer refusal = Err (record { layer = layer; refusal = refusal })

-- the closing's: closed, with the kept sectors, the kept grains and the tail's length in bytes
abbrev pub closed_as : ℕ → ℕ → ℕ → Result Kept Refusal
closed_as sectors grains long = Ok (record { sectors = sectors; grains = grains; length = long })
