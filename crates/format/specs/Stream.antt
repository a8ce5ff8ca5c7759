-- A stream (request A12): the walk over the blocks of a download that broke off, and the grains that it keeps. In all
-- definitions s is the start's bytes, h its header, p a sector and `next` the number after the last grain's, at first 0.
use Rattle.std.specs.Prelude.{ℕ, zero, suc, ◌+◌, ◌*◌, ◌/◌, ◌%◌, List, [], ◌∷◌, Bool, true, not, ◌||◌, ltb, leb, eqb}
use Rattle.base.specs.Pick.{pick}
use Rattle.base.specs.Numbers.{le_at}
use Rattle.format.specs.Geometry.{file_sectors}
use Rattle.format.specs.Entries.{marker_first, marker_size, grain_sectors}
use Rattle.format.specs.Areas.{area, ends_past}
use Rattle.format.specs.declared.Header.{Header}
use Rattle.format.specs.declared.closing.Block.{Block}
use Rattle.format.specs.declared.closing.Block.TheVariants.{Stop, Other, Grain}

-- where the walk starts
abbrev pub overhead : List ℕ → ℕ
overhead s = le_at s 64 8

-- ---- what stands at a sector
-- a block of k sectors; one that is not wholly there stops the walk
unfoldable pub if_whole : List ℕ → ℕ → ℕ → Block → Block
if_whole s p k block = pick (ends_past (file_sectors s) (area p k)) Stop block

-- a grain's first sector that is not a multiple of grain size, not below capacity or not above the last grain's
abbrev pub out_of_order : Header → ℕ → ℕ → Bool
out_of_order h next first =
    not (eqb (first % h.grain_size) 0) || (leb h.capacity first || ltb (first / h.grain_size) next)

-- size above 0: a grain's marker. It takes 12 + size bytes, as a packed grain does
abbrev pub stream_grain : List ℕ → Header → ℕ → ℕ → Block
stream_grain s h p next =
    let sectors = grain_sectors s true h.grain_size p in
    let first = marker_first s p in
    if_whole s p sectors (pick (out_of_order h next first) Stop (Grain (first / h.grain_size) sectors))

-- size 0: another marker, with a type
abbrev pub marker_type : List ℕ → ℕ → ℕ
marker_type s p = le_at s (512 * p + 12) 4

-- 1 is a table, of 4 sectors; 2 a directory. Any other stops the walk, 0 and 3 too
abbrev pub stream_other : List ℕ → Header → ℕ → Block
stream_other s h p =
    pick (eqb (marker_type s p) 1) (if_whole s p 5 (Other 5))
    (pick (eqb (marker_type s p) 2) (if_whole s p (1 + h.directory_sectors) (Other (1 + h.directory_sectors))) Stop)

-- from F on there is no sector, and no byte is read
unfoldable pub block_at : List ℕ → Header → ℕ → ℕ → Block
block_at s h p next =
    pick (leb (file_sectors s) p) Stop (pick (eqb (marker_size s p) 0) (stream_other s h p) (stream_grain s h p next))

-- ---- the walk
-- a grain that is kept: its number, its marker's sector, and how many sectors it takes
pub record KeptGrain : Type 0 where
  pub number : ℕ
  pub sector : ℕ
  pub sectors : ℕ

abbrev pub kept_grain : ℕ → ℕ → ℕ → KeptGrain
kept_grain number sector sectors = record { number = number; sector = sector; sectors = sectors }

-- after a block at p: `walked` goes on from a sector and the number that is then the next
unfoldable pub walk_on : Block → ℕ → ℕ → (ℕ → ℕ → List KeptGrain) → List KeptGrain
walk_on Stop p next walked = []
walk_on (Other sectors) p next walked = walked (p + sectors) next
walk_on (Grain g sectors) p next walked = kept_grain g p sectors ∷ walked (p + sectors) (g + 1)

-- at most n blocks. A block has a sector at least, so F of them reach the file's end
unfoldable pub walk : List ℕ → Header → ℕ → ℕ → ℕ → List KeptGrain
walk s h zero p next = []
walk s h (suc n) p next = walk_on (block_at s h p next) p next (walk s h n)

abbrev pub walk_from : List ℕ → Header → ℕ → ℕ → List KeptGrain
walk_from s h p next = walk s h (file_sectors s) p next

abbrev pub kept_grains : List ℕ → Header → List KeptGrain
kept_grains s h = walk_from s h (overhead s) 0

-- ---- all up to the end of the last whole grain, or up to overhead if none
unfoldable pub grains_end : ℕ → List KeptGrain → ℕ
grains_end start [] = start
grains_end start (k ∷ l) = grains_end (k.sector + k.sectors) l

abbrev pub kept_sectors : List ℕ → Header → ℕ
kept_sectors s h = grains_end (overhead s) (kept_grains s h)
