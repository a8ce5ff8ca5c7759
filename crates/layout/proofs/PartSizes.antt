-- Where the parts stand: in order, and below numbers that the code counts in.
use Prim.Native.Nat.{ℕ, ◌+◌, ◌*◌, ◌-◌, ◌≤◌, ◌<◌}
use mathlib.Core.Path.{◌≡◌, ◌∙◌}
use mathlib.Core.List.{List}
use native.Mathlib.Omega.{arith}
use native.Mathlib.Nat.{mul-le-mul}
use Rattle.base.specs.Bytes.{over, zeros}
use Rattle.base.specs.Rounding.{ceil}
use Rattle.base.proofs.Rounding.{ceil_under}
use Rattle.format.specs.Geometry.{grains, directory_sectors}
use Rattle.format.specs.Layout.{head_sectors, sectors_per_table, table_count, tables_at, tables_end, sector_v, gap_bytes}
use Rattle.format.specs.declared.Kind.{Kind}
use Rattle.format.specs.declared.Kind.TheVariants.{Kdmv, Cowd}
use Rattle.format.proofs.Geometry.{directory_room}
use Rattle.format.proofs.Lengths.{entries_fit, grains_late}
use Rattle.layout.specs.WrittenParts.{entries_end, unused}

-- ---- as the code computes them
pub directory_few : (n m : ℕ) → n ≤ 0x80000000 → m ≡ directory_sectors n → m ≤ 0x1000000
unfolding directory_sectors
directory_few n m b q = omega arith

pub first_table : (kind : Kind) (b n m c z : ℕ) → b ≡ head_sectors kind → b ≤ 4 → n ≡ table_count kind c z → n ≤ 0x80000000
    → m ≡ directory_sectors n → (b + m ≡ tables_at kind c z) × (b + m ≤ 0x100000000)
unfolding tables_at
first_table kind b n m c z e f i j q = (rw (q, e, i), omega (arith, directory_few n m j q))

pub tables_few : (k n : ℕ) → k ≤ 32 → n ≤ 0x80000000 → k * n ≤ 0x1000000000
tables_few k n h l = mul-le-mul h l

pub last_table : (kind : Kind) (t k n c z : ℕ) → t ≡ tables_at kind c z → t ≤ 0x100000000 → k ≡ sectors_per_table kind → k ≤ 32
    → n ≡ table_count kind c z → n ≤ 0x80000000 → (t + k * n ≡ tables_end kind c z) × (t + k * n ≤ 0x2000000000)
unfolding tables_end
last_table kind t k n c z e b f h i l = (rw (e, f, i), omega (arith, tables_few k n h l))

pub rounded : (q a z : ℕ) → 1 ≤ z → z ≤ 2048 → q ≡ ceil a z → q * z < a + 2048
rounded q a z l h e = rw e (omega (arith, ceil_under a z l))

module _ (kind : Kind) (a c z : ℕ) (e : a ≡ tables_end kind c z) (b : a ≤ 0x2000000000) where
  pub first_grain : kind ≡ Kdmv → (q : ℕ) → 1 ≤ z → z ≤ 2048 → q ≡ ceil a z
      → (q * z ≡ sector_v kind c z) × (q * z ≤ 0x2000000800)
  unfolding sector_v
  first_grain is q l h i = (rw (i, e, is), omega (arith, rounded q a z l h i))

  pub unrounded : kind ≡ Cowd → (a ≡ sector_v kind c z) × (a ≤ 0x2000000800)
  unfolding sector_v
  unrounded is = (rw (e, is), omega arith)

-- ---- in order
module _ (kind : Kind) (c z : ℕ) where
  pub directory_fits : 512 * head_sectors kind + 4 * table_count kind c z ≤ 512 * tables_at kind c z
  unfolding tables_at
  directory_fits = omega (arith, directory_room (table_count kind c z))

  pub directory_ends : (b n t : ℕ) → b ≡ head_sectors kind → n ≡ table_count kind c z → t ≡ tables_at kind c z
      → 512 * b + 4 * n ≤ 512 * t
  directory_ends b n t d e f = rw (d, e, f) directory_fits

  module _ (l : 1 ≤ z) where
    -- unused entries end with the tables, and the gap follows
    pub unused_ends : entries_end kind c z + 4 * (128 * (sectors_per_table kind * table_count kind c z) - grains c z)
        ≡ 512 * tables_end kind c z
    unfolding tables_end
    unused_ends = omega (arith, entries_fit kind c z l)

    pub unused_fits : (t g e : ℕ) → t ≡ tables_at kind c z → g ≡ grains c z → e ≡ tables_end kind c z
        → 512 * t + 4 * g ≤ 512 * e
    unused_fits t g e p q r = rw (p, q, r) (omega (arith, unused_ends))

    pub gap_follows : (e v : ℕ) → e ≡ tables_end kind c z → v ≡ sector_v kind c z → e ≤ v
    gap_follows e v p q = rw (p, q) (grains_late kind c z l)

    pub entries_before : entries_end kind c z ≤ 512 * sector_v kind c z
    entries_before = omega (arith, unused_ends, grains_late kind c z l)

    -- what has room for all that stands before the grains has room for each part
    pub front_fits : (n : ℕ) → 512 * sector_v kind c z ≤ n
        → (512 * head_sectors kind ≤ n) × (512 * tables_at kind c z ≤ n) × (512 * tables_end kind c z ≤ n)
    front_fits n h =
        (omega (arith, entries_before, directory_fits), omega (arith, entries_before), omega (arith, grains_late kind c z l))

-- ---- the zeros that the code counts are those of the parts
module _ (kind : Kind) (c z : ℕ) where
  unused_is : 1 ≤ z → (t g e : ℕ) → t ≡ tables_at kind c z → g ≡ grains c z → e ≡ tables_end kind c z
      → zeros (512 * e - (512 * t + 4 * g)) ≡ unused kind c z
  unfolding unused
  unused_is l t g e p q r =
      let n : 512 * e - (512 * t + 4 * g) ≡ 4 * (128 * (sectors_per_table kind * table_count kind c z) - grains c z) =
      rw (p, q, r) (omega (arith, unused_ends kind c z l)) in
      rw n

  pub unused_put : 1 ≤ z → (t g e : ℕ) (d y : List ℕ) → y ≡ over d (512 * t + 4 * g) (zeros (512 * e - (512 * t + 4 * g)))
      → t ≡ tables_at kind c z → g ≡ grains c z → e ≡ tables_end kind c z → y ≡ over d (entries_end kind c z) (unused kind c z)
  unused_put l t g e d y w p q r = w ∙ rw (unused_is l t g e p q r, p, q)

  gap_is : (e v : ℕ) → e ≡ tables_end kind c z → v ≡ sector_v kind c z → zeros (512 * v - 512 * e) ≡ gap_bytes kind c z
  unfolding gap_bytes
  gap_is e v p q = let n : 512 * v - 512 * e ≡ 512 * (v - e) = omega arith in rw n (rw (p, q))

  pub gap_put : (e v : ℕ) (d y : List ℕ) → y ≡ over d (512 * e) (zeros (512 * v - 512 * e)) → e ≡ tables_end kind c z
      → v ≡ sector_v kind c z → y ≡ over d (512 * tables_end kind c z) (gap_bytes kind c z)
  gap_put e v d y w p q = w ∙ rw (gap_is e v p q, p)
