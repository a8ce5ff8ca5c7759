-- The parts of a layout: how long each is, and what follows what.
use Prim.Native.Nat.{ℕ, suc, ◌+◌, ◌*◌, ◌-◌, ◌≤◌}
use mathlib.Core.Path.{◌≡◌, refl, ◌∙◌}
use native.Mathlib.Omega.{arith}
use native.Mathlib.Nat.{add-mul, add_assoc}
use lib.ListN.{length}
use Rattle.base.specs.Numbers.{le_bytes}
use Rattle.base.specs.Bytes.{zeros}
use Rattle.base.specs.Rows.{rows}
use Rattle.base.proofs.Rounding.{ceil_covers, ceil_under}
use Rattle.base.proofs.Over.{zeros_length}
use Rattle.base.proofs.Rows.{entries_length}
use Rattle.format.specs.Geometry.{grains, directory_sectors}
use Rattle.format.specs.Grains.{Map, one_if_stored, stored_below}
use Rattle.format.specs.Layout.{head_sectors, sectors_per_table, table_count, tables_end, sector_v, sector_of, header_bytes}
use Rattle.format.specs.Layout.{directory_bytes, table_bytes, gap_bytes}
use Rattle.format.specs.declared.Kind.{Kind}
use Rattle.format.specs.declared.Kind.TheVariants.{Kdmv, Cowd}
use Rattle.format.proofs.Geometry.{entries_enough}

-- ---- of either kind
-- header and tables have sectors, and few
pub record Few (kind : Kind) : Type 0 where
  pub header : 1 ≤ head_sectors kind
  pub headers : head_sectors kind ≤ 4
  pub table : 1 ≤ sectors_per_table kind
  pub tables : sectors_per_table kind ≤ 32

pub few : (kind : Kind) → Few kind
few Kdmv = record { header = omega arith; headers = omega arith; table = omega arith; tables = omega arith }
few Cowd = record { header = omega arith; headers = omega arith; table = omega arith; tables = omega arith }

pub header_length : (kind : Kind) (c size sectors : ℕ) → length (header_bytes kind c size sectors) ≡ 512 * head_sectors kind
unfolding header_bytes rows le_bytes zeros
header_length Kdmv c size sectors = refl
header_length Cowd c size sectors = refl

-- grains begin after the tables
pub grains_late : (kind : Kind) (c size : ℕ) → 1 ≤ size → tables_end kind c size ≤ sector_v kind c size
unfolding sector_v
grains_late Kdmv c size some = ceil_covers (tables_end Kdmv c size) size some
grains_late Cowd c size some = omega arith

-- and soon after them
pub grains_soon : (kind : Kind) (c size : ℕ) → 1 ≤ size → sector_v kind c size ≤ tables_end kind c size + size
unfolding sector_v
grains_soon Kdmv c size some = omega (arith, ceil_under (tables_end Kdmv c size) size some)
grains_soon Cowd c size some = omega arith

module _ (kind : Kind) (c size : ℕ) where
  -- the tables have an entry for each grain
  pub entries_fit : 1 ≤ size → grains c size ≤ 128 * (sectors_per_table kind * table_count kind c size)
  unfolding table_count
  entries_fit some =
      let f = few kind in
      omega (arith, entries_enough c size some (128 * sectors_per_table kind) (omega arith))

  pub directory_length : length (directory_bytes kind c size) ≡ 512 * directory_sectors (table_count kind c size)
  unfolding directory_bytes
  directory_length = entries_length _ _ ∙ omega arith

  pub tables_length : (m : Map) → length (table_bytes kind c size m) ≡ 512 * (sectors_per_table kind * table_count kind c size)
  unfolding table_bytes
  tables_length m = entries_length _ _ ∙ omega arith

  pub gap_length : length (gap_bytes kind c size) ≡ 512 * (sector_v kind c size - tables_end kind c size)
  unfolding gap_bytes
  gap_length = zeros_length _

  -- and follow back to back
  pub next_sector : (m : Map) (g : ℕ)
      → sector_of kind c size m (suc g) ≡ sector_of kind c size m g + one_if_stored (m g) * size
  unfolding sector_of stored_below
  next_sector m g = simp (add-mul, add_assoc)
