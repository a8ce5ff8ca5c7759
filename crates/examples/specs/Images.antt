-- Small images, byte by byte, on which the definitions are computed. The bytes are written out as document 01 has them, and not
-- by the definitions, so that a definition with another byte fails.
use Rattle.std.specs.Prelude.{ℕ, ◌+◌, ◌-◌, ◌*◌, List, [], ◌∷◌, ◌++◌, Bool, true, false, replicate}
use Rattle.base.specs.Numbers.{le_bytes}
use Rattle.base.specs.Bytes.{over, zeros}
use Rattle.format.specs.declared.Header.{Header}

-- parts one after the other
abbrev pub joined : List (List ℕ) → List ℕ
joined [] = []
joined (part ∷ parts) = part ++ joined parts

-- an image with the number v written over it, in the n bytes at `at`
abbrev pub with : ℕ → ℕ → ℕ → List ℕ → List ℕ
with at n v s = over s at (le_bytes n v)

-- sector 0 of a KDMV image, by its version and flags: uncompressed, no descriptor, no redundant directory
abbrev pub flagged_sector : ℕ → ℕ → ℕ → ℕ → ℕ → List ℕ
flagged_sector version flags capacity size directory =
    joined
    ((0x4b ∷ 0x44 ∷ 0x4d ∷ 0x56 ∷ [])
    ∷ le_bytes 4 version
    ∷ le_bytes 4 flags
    ∷ le_bytes 8 capacity
    ∷ le_bytes 8 size
    ∷ zeros 16
    ∷ le_bytes 4 512
    ∷ le_bytes 8 0
    ∷ le_bytes 8 directory
    ∷ zeros 9
    ∷ (0x0a ∷ 0x20 ∷ 0x0d ∷ 0x0a ∷ [])
    ∷ zeros 435
    ∷ [])

-- of version 2 with newline test and zeroed entries, so that entry 1 means zeros
abbrev pub kdmv_sector : ℕ → ℕ → ℕ → List ℕ
kdmv_sector capacity size directory = flagged_sector 2 5 capacity size directory

-- sectors 0 to 3 of a COWD image
abbrev pub cowd_sectors : ℕ → ℕ → ℕ → ℕ → List ℕ
cowd_sectors capacity size directory stored =
    joined
    ((0x43 ∷ 0x4f ∷ 0x57 ∷ 0x44 ∷ [])
    ∷ le_bytes 4 1
    ∷ le_bytes 4 3
    ∷ le_bytes 4 capacity
    ∷ le_bytes 4 size
    ∷ le_bytes 4 directory
    ∷ le_bytes 4 stored
    ∷ zeros 2020
    ∷ [])

-- a COWD image of capacity 16 and grain size 8 without a table: the directory at sector 4
abbrev pub small_cowd : List ℕ
small_cowd = joined (cowd_sectors 16 8 4 1 ∷ zeros 512 ∷ [])

-- source 000's sample, of version 1: the directory at sector 26 holds 27, the table there 128, 0, 256; 384 sectors in all
abbrev pub sample : List ℕ
sample =
    joined
    (flagged_sector 1 1 8192 128 26
    ∷ zeros (512 * 25)
    ∷ le_bytes 4 27
    ∷ zeros 508
    ∷ le_bytes 4 128
    ∷ le_bytes 4 0
    ∷ le_bytes 4 256
    ∷ zeros (2048 - 12 + 512 * 353)
    ∷ [])

-- capacity 16, grain size 8: the directory at sector 1, the table at 2 with the entries of grains 0 and 1 and `unused` in
-- entry 2; `long` sectors from 6 on
abbrev pub small : ℕ → ℕ → ℕ → ℕ → List ℕ
small zeroth first unused long =
    joined
    (kdmv_sector 16 8 1
    ∷ le_bytes 4 2
    ∷ zeros 508
    ∷ le_bytes 4 zeroth
    ∷ le_bytes 4 first
    ∷ le_bytes 4 unused
    ∷ zeros (2048 - 12 + 512 * long)
    ∷ [])

-- two directories, at sectors 1 and 2, two tables, from 3 and from 7 on, the descriptor at 11, and no sector left over. Grain 0
-- is zero and grain 1 absent
abbrev pub doubled : List ℕ
doubled =
    joined
    (with 8 4 7 (with 28 8 11 (with 36 8 1 (with 48 8 2 (kdmv_sector 16 8 1))))
    ∷ le_bytes 4 3
    ∷ zeros 508
    ∷ le_bytes 4 7
    ∷ zeros 508
    ∷ le_bytes 4 1
    ∷ zeros 2044
    ∷ le_bytes 4 1
    ∷ zeros (2044 + 512)
    ∷ [])

-- the same, but grain 1 is zero in the primary's table and absent in the other's
abbrev pub differing : List ℕ
differing = with 1540 4 1 doubled

-- ---- streams
-- sector 0 of a stream, or its footer: compressed, with markers, a descriptor of one sector
abbrev pub stream_sector : ℕ → List ℕ
stream_sector directory =
    with 77 2 1 (with 64 8 0x5556575859 (with 36 8 1 (with 28 8 9 (with 8 4 0x30005 (kdmv_sector 16 8 directory)))))

-- the directory's sector is all ones in sector 0, and the footer has it
abbrev pub stream : List ℕ → ℕ → List ℕ
stream between directory =
    joined (stream_sector 0xffffffffffffffff ∷ between ∷ stream_sector directory ∷ zeros 512 ∷ [])

-- no sector left over: the directory at sector 1, the table from 2 on, grain 0 at 6, grain 1 at 7 and 8, the descriptor at 9,
-- the footer at 10. The grains' markers hold a first sector and a size
abbrev pub packed : ℕ → ℕ → ℕ → ℕ → List ℕ
packed first size next next_size =
    stream
    (joined
    (le_bytes 4 2
    ∷ zeros 508
    ∷ le_bytes 4 6
    ∷ le_bytes 4 7
    ∷ zeros 2040
    ∷ le_bytes 8 first
    ∷ le_bytes 4 size
    ∷ replicate 500 0x99
    ∷ le_bytes 8 next
    ∷ le_bytes 4 next_size
    ∷ replicate 1012 0xaa
    ∷ zeros 512
    ∷ []))
    1

-- a download that broke off after header and descriptor: the descriptor at sector 1, overhead 2
abbrev pub start_sector : ℕ → List ℕ
start_sector directory = with 64 8 2 (with 28 8 1 (stream_sector directory))

abbrev pub start : List ℕ
start = joined (start_sector 0xffffffffffffffff ∷ zeros 512 ∷ [])

-- ---- headers that images of KDMV tell, where entry 1 means zeros; all but `open_header` of clean disks
abbrev headed : ℕ → ℕ → Bool → ℕ → ℕ → ℕ → ℕ → ℕ → Header
headed capacity grain_size stream descriptor descriptor_sectors directory redundant dirty =
    record {
      cowd = false;
      capacity = capacity;
      grain_size = grain_size;
      header_sectors = 1;
      descriptor = descriptor;
      descriptor_sectors = descriptor_sectors;
      directory = directory;
      directory_sectors = 1;
      redundant = redundant;
      entries_per_table = 512;
      table_sectors = 4;
      one_is_zero = true;
      packed = stream;
      footer = stream;
      dirty = dirty;
    }

-- by capacity and grain size
abbrev pub sized_header : ℕ → ℕ → Header
sized_header capacity grain_size = headed capacity grain_size false 0 0 1 0 0

-- the same, by the dirty number too
abbrev pub open_header : ℕ → ℕ → ℕ → Header
open_header capacity grain_size dirty = headed capacity grain_size false 0 0 1 0 dirty

-- of `doubled` with other numbers: descriptor, its sectors, directory, redundant directory
abbrev pub plain_header : ℕ → ℕ → ℕ → ℕ → Header
plain_header descriptor descriptor_sectors directory redundant =
    headed 16 8 false descriptor descriptor_sectors directory redundant 0

-- of a stream whose directory stands at a sector
abbrev pub stream_header : ℕ → Header
stream_header directory = headed 16 8 true 9 1 directory 0 0

-- of a start with a descriptor and a redundant directory at these sectors, which has no footer yet
abbrev pub start_header : ℕ → ℕ → ℕ → Header
start_header descriptor descriptor_sectors redundant =
    headed 16 8 true descriptor descriptor_sectors 0xffffffffffffffff redundant 0
