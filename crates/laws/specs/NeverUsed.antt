-- What two inputs agree in that differ only in bytes from 512 x F on, which are never used.
use Rattle.std.specs.Prelude.{ℕ, ◌*◌, ◌≤◌, ◌<◌, ◌≡◌, List, length, get_or}
use Rattle.format.specs.Geometry.{file_sectors}
use Rattle.format.specs.Chain.{layer_at}

-- two images: length and every byte of the F whole sectors, of which there is one at least
pub record SameSectors (s t : List ℕ) : Type 0 where
  pub long : length s ≡ length t
  pub some : 1 ≤ file_sectors s
  pub same : (i : ℕ) → i < 512 * file_sectors s → get_or s i 0 ≡ get_or t i 0

-- two slices with one list of lengths: so does each layer of the one with that layer of the other
pub record SameLayers (s t lengths : List ℕ) : Type 0 where
  pub long : length s ≡ length t
  pub each : (k : ℕ) → k < length lengths → SameSectors (layer_at s lengths k) (layer_at t lengths k)
