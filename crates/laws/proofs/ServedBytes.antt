-- The bytes of a source that the area rules allow lie in the file, all of them.
use Prim.Native.Nat.{ℕ, ◌+◌, ◌*◌, ◌≤◌, ◌<◌}
use mathlib.Core.Path.{◌≡◌, refl}
use mathlib.Core.List.{List}
use mathlib.Core.Bool.{Bool, true, false}
use native.Mathlib.Omega.{arith}
use native.Mathlib.Nat.{mod-lt}
use lib.ListN.{length}
use Rattle.base.specs.Pick.{pick}
use Rattle.format.specs.Geometry.{file_sectors}
use Rattle.format.specs.Entries.{marker_size, grain_sectors}
use Rattle.format.specs.Areas.{named, runs_past}
use Rattle.format.specs.Accepted.{AreaRules}
use Rattle.format.specs.Source.{grain_source, entry_source, source_of, source_bytes}
use Rattle.format.specs.declared.Header.{Header}
use Rattle.format.specs.declared.Entry.{Entry}
use Rattle.format.specs.declared.Entry.TheVariants.{Absent as no_entry, Zero as zero_entry, Sector}
use Rattle.format.specs.declared.Source.{Source}
use Rattle.format.specs.declared.Source.TheVariants.{Absent, Zero, Stored, Packed}
use Rattle.format.proofs.BytesAt.{part_long}
use Rattle.format.proofs.Inside.{named_in}
use Rattle.laws.proofs.ServedLookup.{grain_in}

-- 512 for stored, the size that the marker tells for packed, else nothing
abbrev pub source_length : Source → ℕ
source_length Absent = 0
source_length Zero = 0
source_length (Stored sector) = 512
source_length (Packed marker size o) = size

module _ (s : List ℕ) (size o : ℕ) (low : o < size) where
  grain_long : (packed : Bool) (e : ℕ) → e + grain_sectors s packed size e ≤ file_sectors s
      → length (source_bytes s (grain_source s packed o e)) ≡ source_length (grain_source s packed o e)
  unfolding grain_source grain_sectors source_bytes pick
  grain_long true e h = part_long s (512 * e + 12) (marker_size s e) (omega arith)
  grain_long false e h = part_long s (512 * (e + o)) 512 (omega arith)

  entry_long : (packed : Bool) (d : Entry) → runs_past (file_sectors s) (named (grain_sectors s packed size) d) ≡ false
      → length (source_bytes s (entry_source s packed o d)) ≡ source_length (entry_source s packed o d)
  unfolding entry_source source_bytes
  entry_long packed no_entry p = refl
  entry_long packed zero_entry p = refl
  entry_long packed (Sector e) p = grain_long packed e (named_in (file_sectors s) (grain_sectors s packed size) e p)

module _ (s : List ℕ) (h : Header) (one : 1 ≤ h.grain_size) (per : 1 ≤ h.entries_per_table) (r : AreaRules s h) (x : ℕ)
    (low : x < h.capacity) where
  -- so the part that is read is as long as the source says
  pub source_long : length (source_bytes s (source_of s h x)) ≡ source_length (source_of s h x)
  source_long = entry_long s h.grain_size _ (mod-lt x one) h.packed _ (grain_in s h one per r x low)
