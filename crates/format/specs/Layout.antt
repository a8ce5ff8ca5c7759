-- The images that are written: from a kind, capacity, grain size and a grain map to bytes. KDMV is document 01's collapsed
-- image, COWD the normal form of request A9.
use Rattle.std.specs.Prelude.{ℕ, ◌+◌, ◌-◌, ◌*◌, ◌<◌, List, [], ◌∷◌, ltb}
use Rattle.base.specs.Pick.{pick}
use Rattle.base.specs.Rounding.{ceil}
use Rattle.base.specs.Numbers.{le_bytes}
use Rattle.base.specs.Bytes.{zeros}
use Rattle.base.specs.Rows.{rows, all_of, entry_bytes}
use Rattle.format.specs.Geometry.{grains, directory_entries, directory_sectors}
use Rattle.format.specs.Kdmv.{kdmv_magic, newline_bytes}
use Rattle.format.specs.Cowd.{cowd_magic}
use Rattle.format.specs.Grains.{Map, bytes_of, stored_below, entry_for, Whole}
use Rattle.format.specs.declared.Kind.{Kind}
use Rattle.format.specs.declared.Kind.TheVariants.{Kdmv, Cowd}

-- ---- where the parts stand
-- the header's sectors. The directory stands from the next one on: sector 1 in KDMV, sector 4 in COWD
abbrev pub head_sectors : Kind → ℕ
head_sectors Kdmv = 1
head_sectors Cowd = 4

-- a table's sectors. 128 entries fill a sector: a table has 512 of them in KDMV, 4,096 in COWD
abbrev pub sectors_per_table : Kind → ℕ
sectors_per_table Kdmv = 4
sectors_per_table Cowd = 32

-- a table for each of the n directory entries
unfoldable pub table_count : Kind → ℕ → ℕ → ℕ
table_count kind capacity grain_size = directory_entries capacity (128 * sectors_per_table kind) grain_size

-- after the directory the tables; the first sector after them
unfoldable pub tables_at : Kind → ℕ → ℕ → ℕ
tables_at kind capacity grain_size = head_sectors kind + directory_sectors (table_count kind capacity grain_size)

unfoldable pub tables_end : Kind → ℕ → ℕ → ℕ
tables_end kind capacity grain_size = tables_at kind capacity grain_size + sectors_per_table kind * table_count kind
    capacity grain_size

-- V: the first sector after the tables, in KDMV rounded up to a multiple of grain size, in COWD with no rounding
unfoldable pub sector_v : Kind → ℕ → ℕ → ℕ
sector_v Kdmv capacity grain_size = ceil (tables_end Kdmv capacity grain_size) grain_size * grain_size
sector_v Cowd capacity grain_size = tables_end Cowd capacity grain_size

-- grains follow from V on, back to back: the sector of grain g, if it is stored
unfoldable pub sector_of : Kind → ℕ → ℕ → Map → ℕ → ℕ
sector_of kind capacity grain_size m g = sector_v kind capacity grain_size + stored_below m g * grain_size

-- the file's length in sectors: V + stored grains x grain size
unfoldable pub sectors_laid : Kind → ℕ → ℕ → Map → ℕ
sectors_laid kind capacity grain_size m = sector_v kind capacity grain_size + stored_below m (grains capacity grain_size)
    * grain_size

-- ---- entries: unused ones are 0. Each sector here is below 2^32, so four bytes hold it
abbrev pub directory_entry : Kind → ℕ → ℕ → ℕ → ℕ
directory_entry kind capacity grain_size d =
    pick (ltb d (table_count kind capacity grain_size)) (tables_at kind capacity grain_size + sectors_per_table kind * d) 0

abbrev pub table_entry : Kind → ℕ → ℕ → Map → ℕ → ℕ
table_entry kind capacity grain_size m g =
    pick (ltb g (grains capacity grain_size)) (entry_for (m g) (sector_of kind capacity grain_size m g)) 0

-- ---- bytes, each field with its offset
abbrev pub kdmv_parts : ℕ → ℕ → List (List ℕ)
kdmv_parts capacity grain_size =
    kdmv_magic  -- 0
    ∷ le_bytes 4 2  -- 4: version
    ∷ le_bytes 4 5  -- 8: flags
    ∷ le_bytes 8 capacity  -- 12
    ∷ le_bytes 8 grain_size  -- 20
    ∷ le_bytes 8 0  -- 28: descriptor
    ∷ le_bytes 8 0  -- 36: descriptor sectors
    ∷ le_bytes 4 512  -- 44: entries per table
    ∷ le_bytes 8 0  -- 48: no redundant directory
    ∷ le_bytes 8 1  -- 56: directory sector
    ∷ le_bytes 8 (sector_v Kdmv capacity grain_size)  -- 64: overhead V
    ∷ zeros 1  -- 72: clean
    ∷ newline_bytes  -- 73
    ∷ le_bytes 2 0  -- 77: compression
    ∷ zeros 433  -- 79
    ∷ []

-- `sectors` is the file's length in sectors. What is left of the 2,048 bytes is zero, the dirty number at 1648 too
abbrev pub cowd_parts : ℕ → ℕ → ℕ → List (List ℕ)
cowd_parts capacity grain_size sectors =
    cowd_magic  -- 0
    ∷ le_bytes 4 1  -- 4: version
    ∷ le_bytes 4 3  -- 8: flags
    ∷ le_bytes 4 capacity  -- 12
    ∷ le_bytes 4 grain_size  -- 16
    ∷ le_bytes 4 4  -- 20: directory sector
    ∷ le_bytes 4 (table_count Cowd capacity grain_size)  -- 24: n entries
    ∷ le_bytes 4 sectors  -- 28
    ∷ zeros 2016  -- 32
    ∷ []

abbrev pub header_parts : Kind → ℕ → ℕ → ℕ → List (List ℕ)
header_parts Kdmv capacity grain_size sectors = kdmv_parts capacity grain_size
header_parts Cowd capacity grain_size sectors = cowd_parts capacity grain_size sectors

unfoldable pub header_bytes : Kind → ℕ → ℕ → ℕ → List ℕ
header_bytes kind capacity grain_size sectors = all_of (header_parts kind capacity grain_size sectors)

-- 128 entries fill a sector
unfoldable pub directory_bytes : Kind → ℕ → ℕ → List ℕ
directory_bytes kind capacity grain_size =
    entry_bytes (128 * directory_sectors (table_count kind capacity grain_size)) (directory_entry kind capacity grain_size)

-- the tables are one run of entries: entry g of them all is grain g's
unfoldable pub table_bytes : Kind → ℕ → ℕ → Map → List ℕ
table_bytes kind capacity grain_size m =
    entry_bytes (128 * (sectors_per_table kind * table_count kind capacity grain_size)) (table_entry kind capacity grain_size m)

-- the gap is zero
unfoldable pub gap_bytes : Kind → ℕ → ℕ → List ℕ
gap_bytes kind capacity grain_size = zeros (512 * (sector_v kind capacity grain_size - tables_end kind capacity grain_size))

-- the stored grains in virtual order
unfoldable pub grain_bytes : ℕ → ℕ → Map → List ℕ
grain_bytes capacity grain_size m = rows (grains capacity grain_size) (λ g. bytes_of (m g))

abbrev pub layout_parts : Kind → ℕ → ℕ → Map → List (List ℕ)
layout_parts kind capacity grain_size m =
    header_bytes kind capacity grain_size (sectors_laid kind capacity grain_size m)
    ∷ directory_bytes kind capacity grain_size
    ∷ table_bytes kind capacity grain_size m
    ∷ gap_bytes kind capacity grain_size
    ∷ grain_bytes capacity grain_size m
    ∷ []

unfoldable pub layout_as : Kind → ℕ → ℕ → Map → List ℕ
layout_as kind capacity grain_size m = all_of (layout_parts kind capacity grain_size m)

-- the result's length: 512 x (V + stored grains x grain size)
abbrev pub length_as : Kind → ℕ → ℕ → Map → ℕ
length_as kind capacity grain_size m = 512 * sectors_laid kind capacity grain_size m

-- ---- the collapsed image
abbrev pub layout_of : ℕ → ℕ → Map → List ℕ
layout_of capacity grain_size m = layout_as Kdmv capacity grain_size m

abbrev pub layout_length : ℕ → ℕ → Map → ℕ
layout_length capacity grain_size m = length_as Kdmv capacity grain_size m

-- a map that has a layout: each grain whole
abbrev pub Fits : ℕ → ℕ → Map → Type 0
Fits capacity grain_size m = (g : ℕ) → g < grains capacity grain_size → Whole capacity grain_size g (m g)
