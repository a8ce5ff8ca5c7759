-- What the functions of the walk say of what is left of it.
use Rattle.std.specs.Prelude.{ℕ, ◌+◌, ◌/◌, ◌≤◌, ◌<◌, ◌≡◌, List, [], ◌∷◌, Bool, false, eqb, length, Option, None, Some}
use Rattle.format.specs.Geometry.{file_sectors}
use Rattle.format.specs.Judged.{Sized}
use Rattle.format.specs.Header.{directory_entries_of}
use Rattle.format.specs.Stream.{KeptGrain, kept_grain, walk_from, kept_grains, kept_sectors}
use Rattle.format.specs.Tail.{new_tables}
use Rattle.format.specs.declared.Header.{Header}
use Rattle.walk.specs.declared.NextGrain.{NextGrain}
use Rattle.walk.specs.declared.Counted.{Counted}

-- a header over whose stream the walk can go
pub record Walkable (h : Header) : Type 0 where
  pub sizes : Sized h.capacity h.grain_size
  pub table : h.entries_per_table ≡ 512
  pub few : h.directory_sectors ≤ 0x80000000

-- above the number of every grain
abbrev pub no_grain : ℕ
no_grain = 0x8000000000000000

-- what is left of the walk, from its next grain on
unfoldable pub rest_of : List ℕ → Header → Option NextGrain → List KeptGrain
rest_of s h None = []
rest_of s h (Some c) = kept_grain c.number c.sector c.sectors ∷ walk_from s h (c.sector + c.sectors) (c.number + 1)

-- whether directory entry d has the next grain
abbrev pub next_in : Option NextGrain → ℕ → Bool
next_in None d = false
next_in (Some c) d = eqb (c.number / 512) d

-- c is a grain, of number g at least
pub record GrainFrom (s : List ℕ) (h : Header) (g : ℕ) (c : NextGrain) : Type 0 where
  pub low : g ≤ c.number
  pub high : c.number < no_grain
  pub used : c.number / 512 < directory_entries_of h
  pub here : c.sector + c.sectors ≤ file_sectors s

-- the next grain, if there is one, is of number g at least
pub record Standing (s : List ℕ) (h : Header) (g : ℕ) (next : Option NextGrain) : Type 0 where
  pub grain : (c : NextGrain) → next ≡ Some c → GrainFrom s h g c

-- what is left from sector p and number g on
pub record Next (s : List ℕ) (h : Header) (p g : ℕ) (next : Option NextGrain) : Type 0 where
  pub standing : Standing s h g next
  pub is : rest_of s h next ≡ walk_from s h p g

-- the kept sectors and grains, and the tables that name them
pub record Tallied (s : List ℕ) (h : Header) (t : Counted) : Type 0 where
  pub sectors : t.sectors ≡ kept_sectors s h
  pub grains : t.grains ≡ length (kept_grains s h)
  pub tables : t.tables ≡ new_tables h (kept_grains s h)
  pub few : t.sectors ≤ file_sectors s
