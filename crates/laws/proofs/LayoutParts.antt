-- The parts of a layout: where each stands, and how long all are.
use Prim.Native.Nat.{ℕ, ◌*◌}
use mathlib.Core.Path.{◌≡◌, ◌∙◌}
use native.Mathlib.Omega.{arith}
use native.Mathlib.Nat.{mul_left_comm}
use lib.ListN.{length, length-append}
use Rattle.base.specs.Rows.{rows, first_of}
use Rattle.base.proofs.Stands.{Stands, stands_at}
use Rattle.base.proofs.Rows.{part_at}
use Rattle.format.specs.Geometry.{grains}
use Rattle.format.specs.Grains.{Map}
use Rattle.format.specs.Layout.{Fits, head_sectors, tables_at, tables_end, sector_v, sectors_laid, header_bytes}
use Rattle.format.specs.Layout.{directory_bytes}
use Rattle.format.specs.Layout.{table_bytes, gap_bytes, grain_bytes, layout_parts, layout_as, length_as}
use Rattle.format.specs.declared.Kind.{Kind}
use Rattle.format.proofs.Grains.{whole_length, stored_length}
use Rattle.format.proofs.Lengths.{header_length, directory_length, tables_length, gap_length, grains_late}
use Rattle.laws.proofs.LayoutNumbers.{Sizes, some_size}

module _ (kind : Kind) {c size : ℕ} (z : Sizes c size) (m : Map) where
  pub header_stands : Stands (layout_as kind c size m) 0 (header_bytes kind c size (sectors_laid kind c size m))
  unfolding layout_as rows
  header_stands = part_at (layout_parts kind c size m) 0 (omega arith)

  pub directory_stands : Stands (layout_as kind c size m) (512 * head_sectors kind) (directory_bytes kind c size)
  unfolding layout_as rows
  directory_stands = stands_at _ (header_length kind c size _) (part_at (layout_parts kind c size m) 1 (omega arith))

  pub tables_stand : Stands (layout_as kind c size m) (512 * tables_at kind c size) (table_bytes kind c size m)
  unfolding layout_as rows tables_at
  tables_stand =
      stands_at _ (simp (length-append, header_length, directory_length) (omega arith))
      (part_at (layout_parts kind c size m) 2 (omega arith))

  pub gap_stands : Stands (layout_as kind c size m) (512 * tables_end kind c size) (gap_bytes kind c size)
  unfolding layout_as rows tables_end tables_at
  gap_stands =
      stands_at _ (simp (length-append, header_length, directory_length, tables_length) (omega arith))
      (part_at (layout_parts kind c size m) 3 (omega arith))

  before_grains : length (first_of (layout_parts kind c size m) 4) ≡ 512 * sector_v kind c size
  unfolding rows tables_end tables_at
  before_grains =
      simp (length-append, header_length, directory_length, tables_length, gap_length)
      (omega (arith, grains_late kind c size (some_size z)))

  pub grains_stand : Stands (layout_as kind c size m) (512 * sector_v kind c size) (grain_bytes c size m)
  unfolding layout_as
  grains_stand = stands_at _ before_grains (part_at (layout_parts kind c size m) 4 (omega arith))

  -- the result's length
  pub layout_length_lem : Fits c size m → length (layout_as kind c size m) ≡ length_as kind c size m
  unfolding layout_as sectors_laid rows grain_bytes
  layout_length_lem f =
      let long = stored_length size m (grains c size) (λ g b. whole_length c size g (m g) (f g b)) in
      length-append (first_of (layout_parts kind c size m) 4) (grain_bytes c size m)
      ∙ rw (before_grains, long, mul_left_comm) (omega arith)
