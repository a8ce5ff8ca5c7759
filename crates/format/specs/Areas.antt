-- Areas: the parts of a file that an image uses, as one list.
use Rattle.std.specs.Prelude.{ℕ, ◌+◌, ◌-◌, ◌≤◌, min, max, List, [], ◌∷◌, ◌++◌, Bool, false, not, ◌&&◌, ◌||◌, ltb, leb, eqb}
use Rattle.base.specs.Pick.{pick}
use Rattle.base.specs.Rows.{rows}
use Rattle.format.specs.Geometry.{file_sectors}
use Rattle.format.specs.Header.{grains_of, directory_entries_of}
use Rattle.format.specs.Entries.{meaning_at, grain_entry, grain_sectors}
use Rattle.format.specs.declared.Header.{Header}
use Rattle.format.specs.declared.Entry.{Entry}
use Rattle.format.specs.declared.Entry.TheVariants.{Absent, Zero, Sector}

-- the sectors first to first + sector_count - 1
pub record Area : Type 0 where
  pub first : ℕ
  pub sector_count : ℕ

abbrev pub area : ℕ → ℕ → Area
area first sectors = record { first = first; sector_count = sectors }

-- ---- the areas of an image, group by group
-- an area that an image may have
unfoldable pub if_there : Bool → Area → List Area
if_there there a = pick there (a ∷ []) []

-- what an entry names: nothing, or as many sectors from its own on as `sectors` says
unfoldable pub named : (ℕ → ℕ) → Entry → List Area
named sectors Absent = []
named sectors Zero = []
named sectors (Sector e) = area e (sectors e) ∷ []

abbrev pub header_area : Header → List Area
header_area h = area 0 h.header_sectors ∷ []

-- the descriptor, if its two numbers are not zero
abbrev pub descriptor_area : Header → List Area
descriptor_area h =
    if_there (not (eqb h.descriptor 0) && not (eqb h.descriptor_sectors 0))
    (area h.descriptor h.descriptor_sectors)

abbrev pub directory_area : Header → List Area
directory_area h = area h.directory h.directory_sectors ∷ []

abbrev pub redundant_area : Header → List Area
redundant_area h = if_there (not (eqb h.redundant 0)) (area h.redundant h.directory_sectors)

-- the tables that the first n entries of the directory at a sector name
abbrev pub table_areas : List ℕ → Bool → ℕ → ℕ → ℕ → List Area
table_areas s one_is_zero sectors directory n = rows n (λ d. named (λ e. sectors) (meaning_at s one_is_zero directory d))

abbrev pub primary_tables : List ℕ → Header → List Area
primary_tables s h = table_areas s h.one_is_zero h.table_sectors h.directory (directory_entries_of h)

-- of a redundant directory, if there is one
unfoldable pub redundant_tables : List ℕ → Header → List Area
redundant_tables s h =
    pick (eqb h.redundant 0) [] (table_areas s h.one_is_zero h.table_sectors h.redundant (directory_entries_of h))

-- footer and sector F-1, where used
abbrev pub footer_area : List ℕ → Header → List Area
footer_area s h = if_there h.footer (area (file_sectors s - 2) 1)

abbrev pub last_area : List ℕ → Header → List Area
last_area s h = if_there h.footer (area (file_sectors s - 1) 1)

-- every grain, as the primary tables name it
abbrev pub grain_area : List ℕ → Header → ℕ → List Area
grain_area s h g =
    named (grain_sectors s h.packed h.grain_size) (grain_entry s h g)

abbrev pub grain_areas : List ℕ → Header → List Area
grain_areas s h = rows (grains_of h) (grain_area s h)

unfoldable pub areas : List ℕ → Header → List Area
areas s h =
    header_area h
    ++ (descriptor_area h
    ++ (directory_area h
    ++ (redundant_area h
    ++ (primary_tables s h ++ (redundant_tables s h ++ (footer_area s h ++ (last_area s h ++ grain_areas s h)))))))

-- ---- all lie in sectors 0 to F-1
-- an area runs past sector f, and one of a list does
abbrev pub ends_past : ℕ → Area → Bool
ends_past f a = ltb f (a.first + a.sector_count)

unfoldable pub runs_past : ℕ → List Area → Bool
runs_past f [] = false
runs_past f (a ∷ l) = ends_past f a || runs_past f l

-- ---- no sector lies in two areas
-- 1 where sector x lies in the area, else 0
unfoldable pub holds : Area → ℕ → ℕ
holds a x = pick (leb a.first x && ltb x (a.first + a.sector_count)) 1 0

-- how many of the areas sector x lies in
unfoldable pub holders : List Area → ℕ → ℕ
holders [] x = 0
holders (a ∷ l) x = holds a x + holders l x

abbrev pub Apart : List Area → Type 0
Apart l = (x : ℕ) → holders l x ≤ 1

-- the same as a test: `meet l` is true exactly where `Apart l` does not hold. Two areas share a sector where the later start
-- lies before both ends
unfoldable pub shares : Area → Area → Bool
shares a b = ltb (max a.first b.first) (min (a.first + a.sector_count) (b.first + b.sector_count))

-- an area shares a sector with one of a list
unfoldable pub shares_any : Area → List Area → Bool
shares_any a [] = false
shares_any a (b ∷ l) = shares a b || shares_any a l

-- two members of a list share a sector
unfoldable pub meet : List Area → Bool
meet [] = false
meet (a ∷ l) = shares_any a l || meet l
