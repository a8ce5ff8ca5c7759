-- Grains, tables and directory entries, for any number of entries per table.
use Prim.Native.Nat.{ℕ, ◌*◌, ◌/◌, ◌≤◌, ◌<◌}
use native.Mathlib.Omega.{arith}
use native.Mathlib.Nat.{div-mul-le_self, lt_of_mul-lt-mul_right, mul_assoc, mul-pos}
use Rattle.base.proofs.Rounding.{ceil_most, ceil_above, below_ceil, ceil_groups}
use Rattle.format.specs.Geometry.{grains, directory_entries, directory_sectors}

module _ (capacity size : ℕ) (some : 1 ≤ size) where
  -- there are no more grains than sectors
  pub grains_few : grains capacity size ≤ capacity
  unfolding grains
  grains_few = ceil_most capacity size some

  -- a sector below capacity lies in a grain
  pub grain_of_lem : (x : ℕ) → x < capacity → x / size < grains capacity size
  unfolding grains
  grain_of_lem x h = ceil_above capacity size some (x / size) (omega (arith, div-mul-le_self x size))

  module _ (per_table : ℕ) (one : 1 ≤ per_table) where
    -- the tables have an entry for each grain
    pub entries_enough : grains capacity size ≤ directory_entries capacity per_table size * per_table
    unfolding grains directory_entries
    entries_enough = omega (arith, ceil_groups capacity size per_table some one)

    -- a directory entry is in use exactly where its first grain is a grain
    pub table_used : (d : ℕ) → d * per_table < grains capacity size → d < directory_entries capacity per_table size
    table_used d h = lt_of_mul-lt-mul_right per_table (omega (arith, entries_enough))

    pub first_grain : (d : ℕ) → d < directory_entries capacity per_table size → d * per_table < grains capacity size
    unfolding directory_entries grains
    first_grain d h =
        ceil_above capacity size some (d * per_table)
        (rw mul_assoc (below_ceil capacity (per_table * size) (mul-pos one some) d h))

    -- so a grain's directory entry is in use
    pub entry_used : (g : ℕ) → g < grains capacity size → g / per_table < directory_entries capacity per_table size
    entry_used g h = table_used (g / per_table) (omega (arith, div-mul-le_self g per_table))

-- a directory has room for its entries
pub directory_room : (n : ℕ) → 4 * n ≤ 512 * directory_sectors n
unfolding directory_sectors
directory_room n = omega arith
