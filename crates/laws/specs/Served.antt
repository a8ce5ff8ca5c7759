-- What "serves a sector as the chain does" means.
use Rattle.std.specs.Prelude.{ℕ, ◌*◌, ◌≡◌, List, length}
use Rattle.format.specs.Geometry.{bytes_at}
use Rattle.format.specs.Source.{sector_lookup}
use Rattle.format.specs.Chain.{layer_at, chain_lookup}
use Rattle.format.specs.declared.Source.{Source}
use Rattle.format.specs.declared.Source.TheVariants.{Absent, Zero, Stored}
use Rattle.format.specs.declared.LayerSource.{LayerSource}
use Rattle.std.specs.Prelude.{Ok}

-- a source in image s and one in image t are of the same kind, and where they are stored the 512 bytes are the same
pub data SameSource (s t : List ℕ) : Source → Source → Type 0 where
  absent : SameSource s t Absent Absent
  zero : SameSource s t Zero Zero
  stored : {a b : ℕ} → bytes_at s (512 * a) 512 ≡ bytes_at t (512 * b) 512 → length (bytes_at s (512 * a) 512) ≡ 512
      → SameSource s t (Stored a) (Stored b)

-- a sector of an image, and of the chain of layers in a slice with the list of their lengths: neither is refused, and the
-- image's source is the same as the one in the layer that the chain names
pub record ServedAs (image slice lengths : List ℕ) (sector : ℕ) : Type 0 where
  pub source : Source
  pub answer : LayerSource
  pub found : sector_lookup image sector ≡ Ok source
  pub found_in : chain_lookup slice lengths sector ≡ Ok answer
  pub same : SameSource image (layer_at slice lengths answer.layer) source answer.source
