-- How many sectors, grains, tables and directory entries there are.
use Rattle.std.specs.Prelude.{ℕ, ◌*◌, ◌/◌, List, length, take, drop}
use Rattle.base.specs.Rounding.{ceil}

-- F: file length / 512 rounded down. Bytes from 512 x F on are never used, except the magic of a file of less than a sector
-- (1 or 2), and where a whole file is compared (42); the length itself is judged in 7
abbrev pub file_sectors : List ℕ → ℕ
file_sectors s = length s / 512

-- the n bytes of an image from `at` on
abbrev pub bytes_at : List ℕ → ℕ → ℕ → List ℕ
bytes_at s at n = take n (drop at s)

-- grains = capacity / grain size, rounded up
unfoldable pub grains : ℕ → ℕ → ℕ
grains capacity grain_size = ceil capacity grain_size

-- directory entries n = capacity / (entries per table x grain size), rounded up
unfoldable pub directory_entries : ℕ → ℕ → ℕ → ℕ
directory_entries capacity per_table grain_size = ceil capacity (per_table * grain_size)

-- a directory of n entries takes n x 4 / 512 sectors, rounded up
unfoldable pub directory_sectors : ℕ → ℕ
directory_sectors n = ceil (4 * n) 512
