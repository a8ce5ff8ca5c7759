-- Two layers read as one: where a grain comes from, and what reading it asks.
use Rattle.std.specs.Prelude.{ℕ, ◌+◌, ◌*◌, ◌≤◌, ◌<◌, ◌≡◌, List, length, drop}
use Rattle.format.specs.Header.{grains_of, directory_entries_of}
use Rattle.format.specs.Entries.{meaning_at, grain_entry}
use Rattle.format.specs.Grains.{Grain, Map, merge, clip, grain_map}
use Rattle.format.specs.Grains.Grain.{absent, zeroed, stored}
use Rattle.format.specs.Layout.{sectors_laid}
use Rattle.format.specs.Moves.{laid_as, laid_length_as}
use Rattle.format.specs.declared.Kind.{Kind}
use Rattle.format.specs.declared.Header.{Header}
use Rattle.format.specs.declared.Entry.{Entry}
use Rattle.format.specs.declared.Entry.TheVariants.{Absent as no_entry, Zero as zero_entry, Sector}
use Rattle.format.specs.Judged.{Sound}
use Rattle.layers.specs.declared.GrainSource.{GrainSource}
use Rattle.layers.specs.declared.GrainSource.TheVariants.{Absent, Zero, Lower, Upper}

-- ---- the source of a grain, by its entries in both layers: the upper's unless absent there, else the lower's
unfoldable pub from_lower : Entry → GrainSource
from_lower no_entry = Absent
from_lower zero_entry = Zero
from_lower (Sector e) = Lower e

unfoldable pub source_from : Entry → Entry → GrainSource
source_from lower no_entry = from_lower lower
source_from lower zero_entry = Zero
source_from lower (Sector e) = Upper e

-- 1 where the grain is stored, else 0
unfoldable pub stores : GrainSource → ℕ
stores Absent = 0
stores Zero = 0
stores (Lower e) = 1
stores (Upper e) = 1

-- grain g of a source
unfoldable pub grain_at : List ℕ → List ℕ → ℕ → ℕ → ℕ → GrainSource → Grain
grain_at lower upper capacity size g Absent = absent
grain_at lower upper capacity size g Zero = zeroed
grain_at lower upper capacity size g (Lower e) = stored (clip capacity size g (drop (512 * e) lower))
grain_at lower upper capacity size g (Upper e) = stored (clip capacity size g (drop (512 * e) upper))

-- the map of both layers, and the image of that map of a kind, and its length in sectors and bytes
abbrev pub layered : List ℕ → Header → List ℕ → Header → Map
layered lower h upper k = merge (grain_map lower h) (grain_map upper k)

abbrev pub image_of : Kind → List ℕ → Header → List ℕ → Header → List ℕ
image_of kind lower h upper k = laid_as kind h (layered lower h upper k)

abbrev pub sectors_of : Kind → List ℕ → Header → List ℕ → Header → ℕ
sectors_of kind lower h upper k = sectors_laid kind h.capacity h.grain_size (layered lower h upper k)

abbrev pub length_of : Kind → List ℕ → Header → List ℕ → Header → ℕ
length_of kind lower h upper k = laid_length_as kind h (layered lower h upper k)

-- ---- what is known of an accepted layer that is not compressed: its entries in use and the grains that they name lie in it
pub record Readable (s : List ℕ) (h : Header) : Type 0 where
  pub sound : Sound h
  pub directory : 512 * h.directory + 4 * directory_entries_of h ≤ length s
  pub table : (d t : ℕ) → d < directory_entries_of h → meaning_at s h.one_is_zero h.directory d ≡ Sector t
      → 512 * t + 4 * h.entries_per_table ≤ length s
  pub grain : (g e : ℕ) → g < grains_of h → grain_entry s h g ≡ Sector e → 512 * e + 512 * h.grain_size ≤ length s

-- of both, where 22 is not given
pub record Layers (lower : List ℕ) (h : Header) (upper : List ℕ) (k : Header) : Type 0 where
  pub below : Readable lower h
  pub above : Readable upper k
  pub capacity : k.capacity ≡ h.capacity
  pub size : k.grain_size ≡ h.grain_size

-- the bytes of a source stand in its layer
pub record Standing (lower upper : List ℕ) (size : ℕ) (source : GrainSource) : Type 0 where
  pub below : (e : ℕ) → source ≡ Lower e → 512 * e + 512 * size ≤ length lower
  pub above : (e : ℕ) → source ≡ Upper e → 512 * e + 512 * size ≤ length upper
