-- The numbers of a layout of either kind: what fits where, and in 32 bits.
use Prim.Native.Nat.{ℕ, ◌+◌, ◌*◌, ◌/◌, ◌≤◌, ◌<◌}
use native.Mathlib.Omega.{arith}
use native.Mathlib.Nat.{mul-le-mul, mul-le-mul_left, mul-le-mul_right, mul-pos}
use Rattle.base.proofs.Rounding.{ceil_under, ceil_above}
use Rattle.format.specs.Geometry.{grains, directory_entries, directory_sectors}
use Rattle.format.specs.Accepted.{Capacity, GrainSize}
use Rattle.format.specs.Grains.{Map}
use Rattle.format.specs.Layout.{sectors_per_table, table_count, tables_at, tables_end, sector_of}
use Rattle.format.specs.declared.Kind.{Kind}
use Rattle.format.proofs.Geometry.{entry_used, directory_room}
use Rattle.format.proofs.Grains.{stored_most}
use Rattle.format.proofs.Lengths.{few, entries_fit, grains_late, grains_soon}

-- the sizes of an accepted KDMV image
pub record Sizes (c size : ℕ) : Type 0 where
  pub capacity : Capacity c
  pub grain_size : GrainSize 8 size

pub some_size : {c size : ℕ} → Sizes c size → 1 ≤ size
some_size z = omega (arith, z.grain_size.low)

module _ (kind : Kind) {c size : ℕ} (z : Sizes c size) where
  -- ---- a grain's entries are there
  pub table_of : (g : ℕ) → g < grains c size → g / (128 * sectors_per_table kind) < table_count kind c size
  unfolding table_count
  table_of g h = let f = few kind in entry_used c size (some_size z) (128 * sectors_per_table kind) (omega arith) g h

  pub entry_below : (g : ℕ) → g < grains c size → g < 128 * (sectors_per_table kind * table_count kind c size)
  entry_below g h = omega (arith, entries_fit kind c size (some_size z))

  pub directory_below : (d : ℕ) → d < table_count kind c size → d < 128 * directory_sectors (table_count kind c size)
  directory_below d h = omega (arith, directory_room (table_count kind c size))

  -- ---- order
  -- the sectors of a table's grains
  some_sectors : 1 ≤ 128 * sectors_per_table kind * size
  some_sectors = let f = few kind in mul-pos (omega arith) (some_size z)

  pub some_table : 1 ≤ table_count kind c size
  unfolding table_count directory_entries
  some_table = ceil_above c (128 * sectors_per_table kind * size) some_sectors 0 (omega (arith, z.capacity.low))

  pub tables_late : 2 ≤ tables_at kind c size
  unfolding tables_at
  tables_late = let f = few kind in omega (arith, some_table, directory_room (table_count kind c size))

  pub sector_late : (m : Map) (g : ℕ) → 2 ≤ sector_of kind c size m g
  unfolding sector_of tables_end
  sector_late m g = omega (arith, tables_late, grains_late kind c size (some_size z))

  -- ---- 32 bits
  few_tables : 1024 * (sectors_per_table kind * table_count kind c size) ≤ c + 0x800000
  unfolding table_count directory_entries
  few_tables =
      let f = few kind in
      let h : 1024 ≤ 128 * size = omega (arith, z.grain_size.low) in
      omega (
        arith,
        ceil_under c (128 * sectors_per_table kind * size) some_sectors,
        mul-le-mul_left (sectors_per_table kind * table_count kind c size) h,
        mul-le-mul f.tables z.grain_size.high,
      )

  end_small : tables_end kind c size ≤ 2 * (sectors_per_table kind * table_count kind c size) + 5
  unfolding tables_end tables_at directory_sectors
  end_small = let f = few kind in omega (arith, mul-le-mul_right (table_count kind c size) f.table)

  pub count_small : table_count kind c size < 0x100000000
  count_small =
      let f = few kind in
      omega (arith, few_tables, mul-le-mul_right (table_count kind c size) f.table, z.capacity.high)

  pub table_small : (d : ℕ) → d < table_count kind c size → tables_at kind c size + sectors_per_table kind * d < 0x100000000
  unfolding tables_end
  table_small d h =
      let l : d ≤ table_count kind c size = omega arith in
      omega (arith, end_small, few_tables, z.capacity.high, mul-le-mul_left (sectors_per_table kind) l)

  pub sector_small : (m : Map) (g : ℕ) → g ≤ grains c size → sector_of kind c size m g < 0x100000000
  unfolding sector_of grains
  sector_small m g h =
      omega (
        arith,
        end_small,
        few_tables,
        z.capacity.high,
        z.grain_size.high,
        grains_soon kind c size (some_size z),
        ceil_under c size (some_size z),
        mul-le-mul_right size (stored_most m g),
        mul-le-mul_right size h,
      )
