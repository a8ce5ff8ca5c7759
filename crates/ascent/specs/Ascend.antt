-- Areas in ascending order, and the stretch of the file that they lie in.
use Rattle.std.specs.Prelude.{ℕ, ◌+◌, ◌*◌, ◌-◌, min, List, [], ◌∷◌, ◌++◌, Bool, true, false, ◌||◌, ltb}
use Rattle.base.specs.Pick.{pick}
use Rattle.base.specs.Rows.{rows}
use Rattle.base.specs.Rounding.{ceil}
use Rattle.format.specs.Areas.{Area, area}
use Rattle.named.specs.Named.{least_sector, entry_area, table_grains}
use Rattle.ascent.specs.declared.Stretch.{Stretch}

-- before any area: none begins past sector f
abbrev pub no_stretch : ℕ → Stretch
no_stretch f = record { first = f; end = 0; falls = false }

-- with one area more: it falls where the area begins before the end of the one before it
unfoldable pub stretched : Stretch → Area → Stretch
stretched stretch a =
    record {
      first = min stretch.first a.first;
      end = a.first + a.sector_count;
      falls = stretch.falls || ltb a.first stretch.end;
    }

-- with the areas of a list
unfoldable pub ascend : Stretch → List Area → Stretch
ascend stretch [] = stretch
ascend stretch (a ∷ l) = ascend (stretched stretch a) l

-- one that fell says no more
unfoldable pub settled : Stretch → Stretch
settled stretch = pick stretch.falls record { first = 0; end = 0; falls = true } stretch

-- all of its sectors as one area
abbrev pub span : Stretch → Area
span stretch = area stretch.first (stretch.end - stretch.first)

-- the first n grains of directory entry d and then, where tables stand between grains, its table
unfoldable pub table_row : List ℕ → Bool → ℕ → ℕ → Bool → ℕ → ℕ → ℕ → ℕ → List Area
table_row s between sectors least packed size directory d n =
    table_grains s least packed size directory d n ++ pick between (entry_area s least false sectors directory d) []

-- of as many of its grains as there are
abbrev pub row_in_use : List ℕ → Bool → ℕ → Bool → Bool → ℕ → ℕ → ℕ → ℕ → ℕ → List Area
row_in_use s between sectors one_is_zero packed size per_table directory all d =
    table_row s between sectors (least_sector one_is_zero) packed size directory d (min per_table (all - d * per_table))

-- all grains so
unfoldable pub table_rows : List ℕ → Bool → ℕ → Bool → Bool → ℕ → ℕ → ℕ → ℕ → List Area
table_rows s between sectors one_is_zero packed size per_table directory all =
    rows (ceil all per_table) (row_in_use s between sectors one_is_zero packed size per_table directory all)
