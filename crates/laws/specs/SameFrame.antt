-- What two images agree in that have the same answers: the bytes of the frame, but for the descriptor's, and, of packed grains,
-- the markers.
use Rattle.std.specs.Prelude.{ℕ, ◌*◌, ◌<◌, ◌≡◌, List, [], ◌∷◌, ◌++◌, true, length}
use Rattle.base.specs.Bytes.{SameBytes}
use Rattle.format.specs.Geometry.{file_sectors}
use Rattle.format.specs.Header.{header_of, grains_of}
use Rattle.format.specs.Entries.{grain_entry}
use Rattle.format.specs.Areas.{Area, header_area, directory_area, redundant_area, primary_tables, redundant_tables, footer_area}
use Rattle.format.specs.Areas.{last_area}
use Rattle.format.specs.Frame.{frame}
use Rattle.format.specs.Chain.{layer_at}
use Rattle.format.specs.declared.Header.{Header}
use Rattle.format.specs.declared.Entry.TheVariants.{Sector}
use Rattle.std.specs.Prelude.{Ok}

-- the sectors of each area of a list
abbrev pub SameAreas : List ℕ → List ℕ → List Area → Type 0
SameAreas s t [] = Unit
SameAreas s t (a ∷ l) = (SameBytes s t (512 * a.first) (512 * a.sector_count)) × (SameAreas s t l)

-- the frame's areas but the descriptor, of which only the place counts
unfoldable pub deciding_areas : List ℕ → Header → List Area
deciding_areas s h =
    header_area h
    ++ (directory_area h
    ++ (redundant_area h ++ (primary_tables s h ++ (redundant_tables s h ++ (footer_area s h ++ last_area s h)))))

-- two images of one length, of which the first has a frame: the sectors of these areas and, if the image is packed, the 12
-- bytes of the marker of each grain that starts in the file
pub record SameFrame (s t : List ℕ) : Type 0 where
  pub room : ℕ
  pub list_count : ℕ
  pub listed : frame s room ≡ Ok list_count
  pub long : length s ≡ length t
  pub areas : SameAreas s t (deciding_areas s (header_of s))
  pub markers : (header_of s).packed ≡ true → (g e : ℕ) → g < grains_of (header_of s) → grain_entry s (header_of s) g ≡ Sector e
      → e < file_sectors s → SameBytes s t (512 * e) 12

-- two slices with one list of lengths: so does each layer of the one with that layer of the other
pub record SameFrames (s t lengths : List ℕ) : Type 0 where
  pub long : length s ≡ length t
  pub each : (k : ℕ) → k < length lengths → SameFrame (layer_at s lengths k) (layer_at t lengths k)
