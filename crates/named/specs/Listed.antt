-- What marking asks of entries: what is read lies in the file, and so does what they name.
use Rattle.std.specs.Prelude.{ℕ, ◌+◌, ◌*◌, ◌-◌, ◌≤◌, ◌<◌, min, ◌≡◌, List, Bool, false, length}
use Rattle.format.specs.Geometry.{file_sectors}
use Rattle.format.specs.Entries.{entry_at}
use Rattle.format.specs.Areas.{runs_past}
use Rattle.named.specs.Named.{least_sector, entry_areas}

-- the first n entries of the directory or table at sector t, and what they name
pub record Listed (s : List ℕ) (least : ℕ) (packed : Bool) (size t n : ℕ) : Type 0 where
  pub some : 1 ≤ size
  pub read : 512 * t + 4 * n ≤ length s
  pub inside : runs_past (file_sectors s) (entry_areas s least packed size t n) ≡ false

-- all grains. Directory entry d is in use where its first grain, d * per_table, is one
pub record Grained (s : List ℕ) (one_is_zero packed : Bool) (size per_table directory all : ℕ) : Type 0 where
  pub few : all ≤ 0x80000000
  pub some : 1 ≤ per_table
  pub most : per_table ≤ 4096
  pub entry : (d : ℕ) → d * per_table < all → 512 * directory + 4 * d + 4 ≤ length s
  pub table : (d : ℕ) → d * per_table < all → least_sector one_is_zero ≤ entry_at s directory d
      → Listed s (least_sector one_is_zero) packed size (entry_at s directory d) (min per_table (all - d * per_table))
