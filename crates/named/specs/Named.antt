-- What entries name, as the loops test them: by the lowest entry that is a sector.
use Rattle.std.specs.Prelude.{ℕ, List, [], ◌∷◌, Bool, ltb}
use Rattle.base.specs.Pick.{pick}
use Rattle.base.specs.Rows.{rows}
use Rattle.format.specs.Entries.{entry_at, grain_sectors, entry_of_grain}
use Rattle.format.specs.Areas.{Area, area, named}

-- the lowest entry that is a sector
unfoldable pub least_sector : Bool → ℕ
least_sector one_is_zero = pick one_is_zero 2 1

-- entry k of the directory or table at sector t: what it names takes the sectors of a grain. A table is one that is not packed
unfoldable pub entry_area : List ℕ → ℕ → Bool → ℕ → ℕ → ℕ → List Area
entry_area s least packed size t k =
    let e = entry_at s t k in pick (ltb e least) [] (area e (grain_sectors s packed size e) ∷ [])

-- its first n entries
abbrev pub entry_areas : List ℕ → ℕ → Bool → ℕ → ℕ → ℕ → List Area
entry_areas s least packed size t n = rows n (entry_area s least packed size t)

-- the first n grains of directory entry d
unfoldable pub table_grains : List ℕ → ℕ → Bool → ℕ → ℕ → ℕ → ℕ → List Area
table_grains s least packed size directory d n =
    let t = entry_at s directory d in pick (ltb t least) [] (entry_areas s least packed size t n)

-- grain g of the directory at a sector
unfoldable pub grain_named : List ℕ → Bool → Bool → ℕ → ℕ → ℕ → ℕ → List Area
grain_named s one_is_zero packed size per_table directory g =
    named (grain_sectors s packed size) (entry_of_grain s one_is_zero per_table directory g)
