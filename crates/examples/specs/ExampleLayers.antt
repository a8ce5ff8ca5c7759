-- Two layers, byte by byte, and the images that they make. Capacity 69 and grain size 8 make nine grains, one for each way in
-- which absent, zero and stored stand over each other; the last one has five sectors below capacity.
use Rattle.std.specs.Prelude.{ℕ, zero, ◌+◌, ◌-◌, List, [], ◌∷◌, ◌++◌, replicate, get_or}
use Rattle.base.specs.Numbers.{le_bytes}
use Rattle.base.specs.Bytes.{zeros}
use Rattle.format.specs.Geometry.{grains}
use Rattle.examples.specs.Images.{kdmv_sector}
use Rattle.laws.specs.Layers.{end_to_end}
use Rattle.format.specs.Grains.{Grain, absent, zeroed, stored, Map}
use Rattle.format.specs.Collapse.{collapsed}

-- a grain's 4,096 bytes, all alike: 0x16 in grain 6 of the lower layer, 0x22 in grain 2 of the upper one
unfoldable pub filled : ℕ → List ℕ
filled byte = replicate 4096 byte

-- entries of four bytes
abbrev pub entries_of : List ℕ → List ℕ
entries_of [] = []
entries_of (e ∷ l) = le_bytes 4 e ++ entries_of l

-- three grains absent, three zero, three stored. Entry 9 is not used: it names a sector inside the last grain
unfoldable pub lower : List ℕ
lower =
    end_to_end
    (kdmv_sector 69 8 1
    ∷ entries_of (2 ∷ [])  -- sector 1
    ∷ zeros 508
    ∷ entries_of (0 ∷ 0 ∷ 0 ∷ 1 ∷ 1 ∷ 1 ∷ 14 ∷ 22 ∷ 6 ∷ 7 ∷ [])  -- sector 2
    ∷ zeros 2008
    ∷ filled 0x18  -- sector 6
    ∷ filled 0x16  -- sector 14
    ∷ filled 0x17  -- sector 22
    ∷ [])

-- absent, zero and stored in turn
unfoldable pub upper : List ℕ
upper =
    end_to_end
    (kdmv_sector 69 8 2
    ∷ zeros 512
    ∷ entries_of (3 ∷ [])  -- sector 2
    ∷ zeros 508
    ∷ entries_of (0 ∷ 1 ∷ 23 ∷ 0 ∷ 1 ∷ 7 ∷ 0 ∷ 1 ∷ 15 ∷ [])  -- sector 3
    ∷ zeros 2012
    ∷ filled 0x25  -- sector 7
    ∷ filled 0x28  -- sector 15
    ∷ filled 0x22  -- sector 23
    ∷ [])

-- the last grain, of which five sectors stand below capacity: zeros past them
unfoldable pub cut : ℕ → List ℕ
cut byte = replicate 2560 byte ++ zeros 1536

-- the map of a list of grains
abbrev pub listed : List Grain → Map
listed l g = get_or l g absent

abbrev pub lower_grains : List Grain
lower_grains =
    absent ∷ absent ∷ absent
    ∷ zeroed ∷ zeroed ∷ zeroed
    ∷ stored (filled 0x16) ∷ stored (filled 0x17) ∷ stored (cut 0x18) ∷ []

abbrev pub upper_grains : List Grain
upper_grains =
    absent ∷ zeroed ∷ stored (filled 0x22)
    ∷ absent ∷ zeroed ∷ stored (filled 0x25)
    ∷ absent ∷ zeroed ∷ stored (cut 0x28) ∷ []

-- ---- the bytes
-- sector 0: the header of every collapsed image of these sizes
unfoldable pub header_sector : List ℕ
header_sector =
    0x4b ∷ 0x44 ∷ 0x4d ∷ 0x56  -- magic
    ∷ 2 ∷ 0 ∷ 0 ∷ 0  -- version
    ∷ 5 ∷ 0 ∷ 0 ∷ 0  -- flags
    ∷ 69 ∷ 0 ∷ 0 ∷ 0 ∷ 0 ∷ 0 ∷ 0 ∷ 0  -- capacity
    ∷ 8 ∷ 0 ∷ 0 ∷ 0 ∷ 0 ∷ 0 ∷ 0 ∷ 0  -- grain size
    ∷ 0 ∷ 0 ∷ 0 ∷ 0 ∷ 0 ∷ 0 ∷ 0 ∷ 0  -- descriptor
    ∷ 0 ∷ 0 ∷ 0 ∷ 0 ∷ 0 ∷ 0 ∷ 0 ∷ 0  -- descriptor sectors
    ∷ 0 ∷ 2 ∷ 0 ∷ 0  -- entries per table
    ∷ 0 ∷ 0 ∷ 0 ∷ 0 ∷ 0 ∷ 0 ∷ 0 ∷ 0  -- redundant directory
    ∷ 1 ∷ 0 ∷ 0 ∷ 0 ∷ 0 ∷ 0 ∷ 0 ∷ 0  -- directory
    ∷ 8 ∷ 0 ∷ 0 ∷ 0 ∷ 0 ∷ 0 ∷ 0 ∷ 0  -- overhead
    ∷ 0  -- clean
    ∷ 0x0a ∷ 0x20 ∷ 0x0d ∷ 0x0a  -- newline bytes
    ∷ 0 ∷ 0  -- compression
    ∷ zeros 433

-- sector 1: the directory, of one entry
unfoldable pub directory_sector : List ℕ
directory_sector = 2 ∷ 0 ∷ 0 ∷ 0 ∷ zeros 508

-- sectors 2 to 5: the table, three entries a line
unfoldable pub collapsed_table : List ℕ
collapsed_table =
    0 ∷ 0 ∷ 0 ∷ 0 ∷ 1 ∷ 0 ∷ 0 ∷ 0 ∷ 8 ∷ 0 ∷ 0 ∷ 0
    ∷ 1 ∷ 0 ∷ 0 ∷ 0 ∷ 1 ∷ 0 ∷ 0 ∷ 0 ∷ 16 ∷ 0 ∷ 0 ∷ 0
    ∷ 24 ∷ 0 ∷ 0 ∷ 0 ∷ 1 ∷ 0 ∷ 0 ∷ 0 ∷ 32 ∷ 0 ∷ 0 ∷ 0
    ∷ zeros 2012

unfoldable pub normal_table : List ℕ
normal_table =
    0 ∷ 0 ∷ 0 ∷ 0 ∷ 0 ∷ 0 ∷ 0 ∷ 0 ∷ 0 ∷ 0 ∷ 0 ∷ 0
    ∷ 1 ∷ 0 ∷ 0 ∷ 0 ∷ 1 ∷ 0 ∷ 0 ∷ 0 ∷ 1 ∷ 0 ∷ 0 ∷ 0
    ∷ 8 ∷ 0 ∷ 0 ∷ 0 ∷ 16 ∷ 0 ∷ 0 ∷ 0 ∷ 24 ∷ 0 ∷ 0 ∷ 0
    ∷ zeros 2012

-- sectors 6 and 7: the gap
unfoldable pub gap_sectors : List ℕ
gap_sectors = zeros 1024

-- grains follow
abbrev pub image : List ℕ → List ℕ → List ℕ
image table grains = header_sector ++ directory_sector ++ table ++ gap_sectors ++ grains

unfoldable pub collapsed_grains : List ℕ
collapsed_grains = filled 0x22 ++ filled 0x25 ++ filled 0x16 ++ cut 0x28

unfoldable pub normal_grains : List ℕ
normal_grains = filled 0x16 ++ filled 0x17 ++ cut 0x18
