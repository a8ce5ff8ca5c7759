-- The parts of a layout as functions write them.
use Rattle.std.specs.Prelude.{ℕ, ◌+◌, ◌*◌, ◌-◌, List, [], ◌∷◌}
use Rattle.base.specs.Numbers.{le_bytes}
use Rattle.base.specs.Bytes.{over, zeros}
use Rattle.base.specs.Rows.{rows, all_of, entry_bytes}
use Rattle.format.specs.Geometry.{grains}
use Rattle.format.specs.Kdmv.{kdmv_magic, newline_bytes}
use Rattle.format.specs.Cowd.{cowd_magic}
use Rattle.format.specs.Grains.{Map, bytes_of, stored_below, entry_for}
use Rattle.format.specs.Layout.{head_sectors, sectors_per_table, table_count, tables_at, tables_end, header_bytes}
use Rattle.format.specs.Layout.{directory_bytes}
use Rattle.format.specs.Layout.{gap_bytes}
use Rattle.format.specs.declared.Kind.{Kind}

-- the KDMV header's fields up to entries per table, and those from the redundant directory on, of which the last two are one
-- run of zeros
unfoldable pub header_front : ℕ → ℕ → List ℕ
header_front c n =
    all_of (kdmv_magic ∷ le_bytes 4 2 ∷ le_bytes 4 5 ∷ le_bytes 8 c ∷ le_bytes 8 n ∷ le_bytes 8 0 ∷ le_bytes 8 0 ∷ le_bytes
    4 512 ∷ [])

unfoldable pub header_back : ℕ → List ℕ
header_back v = all_of (le_bytes 8 0 ∷ le_bytes 8 1 ∷ le_bytes 8 v ∷ zeros 1 ∷ newline_bytes ∷ zeros 435 ∷ [])

-- the COWD header's fields, of a directory of n entries: what follows is zero
unfoldable pub cowd_front : ℕ → ℕ → ℕ → ℕ → List ℕ
cowd_front c z n sectors =
    all_of
    (cowd_magic
    ∷ le_bytes 4 1
    ∷ le_bytes 4 3
    ∷ le_bytes 4 c
    ∷ le_bytes 4 z
    ∷ le_bytes 4 4
    ∷ le_bytes 4 n
    ∷ le_bytes 4 sectors
    ∷ [])

-- the first byte after the table entries in use, and the unused ones
abbrev pub entries_end : Kind → ℕ → ℕ → ℕ
entries_end kind capacity size = 512 * tables_at kind capacity size + 4 * grains capacity size

unfoldable pub unused : Kind → ℕ → ℕ → List ℕ
unused kind capacity size = zeros (4 * (128 * (sectors_per_table kind * table_count kind capacity size) - grains capacity size))

-- d with all that stands before the grains, but for the table entries in use, of a file of so many sectors
abbrev pub with_front : Kind → ℕ → ℕ → ℕ → List ℕ → List ℕ
with_front kind capacity size sectors d =
    let header = over d 0 (header_bytes kind capacity size sectors) in
    let start = over header (512 * head_sectors kind) (directory_bytes kind capacity size) in
    over (over start (entries_end kind capacity size) (unused kind capacity size)) (512 * tables_end kind capacity size)
    (gap_bytes kind capacity size)

-- the table entry of grain g, where grains stand from sector v on, and its bytes
abbrev pub entry_in : ℕ → ℕ → Map → ℕ → ℕ
entry_in v size m g = entry_for (m g) (v + stored_below m g * size)

abbrev pub bytes_in : Map → ℕ → List ℕ
bytes_in m g = bytes_of (m g)

-- d with the entries of the first n grains from byte `at` on, and their bytes from sector v on
abbrev pub with_grains : ℕ → ℕ → ℕ → Map → ℕ → List ℕ → List ℕ
with_grains at v size m n d = over (over d at (entry_bytes n (entry_in v size m))) (512 * v) (rows n (bytes_in m))
