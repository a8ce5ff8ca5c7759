-- Images that agree in every sector but those of some spots, of which none lies where directories, tables or markers are read,
-- agree in all that is read of them.
use Prim.Native.Nat.{ℕ, ◌+◌, ◌*◌, ◌/◌, ◌≤◌, ◌<◌}
use mathlib.Core.Path.{◌≡◌}
use mathlib.Core.List.{List}
use native.Mathlib.Omega.{arith}
use lib.ListN.{length, get_or}
use Rattle.format.specs.Header.{grains_of, directory_entries_of}
use Rattle.format.specs.Entries.{entry_at, meaning_at, grain_entry}
use Rattle.format.specs.declared.Header.{Header}
use Rattle.format.specs.declared.Entry.TheVariants.{Sector}
use Rattle.format.specs.Judged.{Sound}
use Rattle.base.specs.Bytes.{SameBytes}
use Rattle.laws.specs.Unused.{SameTables, SameInUse}
use Rattle.base.proofs.SameBytes.{within, number_same}

-- none of the sectors from `first` on is a spot
abbrev pub Clear : (ℕ → Type 0) → ℕ → ℕ → Type 0
Clear spot first sectors = (x : ℕ) → first ≤ x → x < first + sectors → spot x → ⊥

-- a directory and its tables
pub record ClearTables (spot : ℕ → Type 0) (s : List ℕ) (h : Header) (directory : ℕ) : Type 0 where
  pub own : Clear spot directory h.directory_sectors
  pub tables : (d u : ℕ) → d < directory_entries_of h → meaning_at s h.one_is_zero directory d ≡ Sector u
      → Clear spot u h.table_sectors

-- all that is read of an image of a header
pub record ClearImage (spot : ℕ → Type 0) (s : List ℕ) (h : Header) : Type 0 where
  pub primary : ClearTables spot s h h.directory
  pub copies : (h.redundant ≡ 0 → ⊥) → ClearTables spot s h h.redundant
  pub markers : (g e : ℕ) → g < grains_of h → grain_entry s h g ≡ Sector e → Clear spot e 1

module _ (s t : List ℕ) (long : length s ≡ length t) (spot : ℕ → Type 0)
    (same : (i : ℕ) → (spot (i / 512) → ⊥) → get_or s i 0 ≡ get_or t i 0) (h : Header) (sound : Sound h) where
  clear_bytes : (first sectors : ℕ) → Clear spot first sectors → SameBytes s t (512 * first) (512 * sectors)
  clear_bytes first sectors clear i l b = same i (clear (i / 512) (omega arith) (omega arith))

  -- entry k of a directory or table
  entry : (u sectors k : ℕ) → Clear spot u sectors → 4 * k + 4 ≤ 512 * sectors → entry_at s u k ≡ entry_at t u k
  entry u sectors k clear l =
      number_same s t (512 * u + 4 * k) 4
      (within s t (512 * u) (512 * sectors) (512 * u + 4 * k) 4 (clear_bytes u sectors clear) (omega arith) (omega arith))

  tables_clear : (directory : ℕ) → ClearTables spot s h directory → SameTables s t h directory
  tables_clear directory clear = record {
    entries = λ i d l. entry directory h.directory_sectors d clear.own (omega (arith, sound.directory));
    tables = λ d u l e i k b. entry u h.table_sectors k (clear.tables d u l e) (omega (arith, sound.table));
  }

  pub clear_used : ClearImage spot s h → SameInUse s t h
  clear_used clear = record {
    long = long;
    primary = tables_clear h.directory clear.primary;
    copies = λ two. tables_clear h.redundant (clear.copies two);
    markers = λ p g e l q i.
        let own = clear_bytes e 1 (clear.markers g e l q) in (
          number_same s t (512 * e + 8) 4 (within s t (512 * e) 512 (512 * e + 8) 4 own (omega arith) (omega arith)),
          number_same s t (512 * e) 8 (within s t (512 * e) 512 (512 * e) 8 own (omega arith) (omega arith)),
        );
  }
