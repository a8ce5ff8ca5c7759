-- The COWD header, sectors 0 to 3: its fields, and its rules, each true where it is broken.
use Rattle.std.specs.Prelude.{ℕ, List, [], ◌∷◌, Bool, not, ◌||◌, ltb, eqb}
use Rattle.base.specs.Pick.{pick}
use Rattle.base.specs.Numbers.{le_at}
use Rattle.format.specs.Geometry.{directory_entries}
use Rattle.format.specs.Kdmv.{capacity_broken, grain_size_broken}
use Rattle.format.specs.declared.CowdFields.{CowdFields}
use Rattle.format.specs.declared.Refusal.TheVariants.{Version, Sizes}
use Rattle.std.specs.Prelude.{Result, Ok, Err}
use Rattle.format.specs.declared.Refusal.{Refusal}

abbrev pub cowd_magic : List ℕ
cowd_magic = 0x43 ∷ 0x4f ∷ 0x57 ∷ 0x44 ∷ []

-- offset and size of each field. Flags (8,4) are not judged; nor is dirty
unfoldable pub cowd_fields : List ℕ → CowdFields
cowd_fields s =
    record {
      version = le_at s 4 4;
      capacity = le_at s 12 4;
      grain_size = le_at s 16 4;
      directory = le_at s 20 4;
      directory_entries = le_at s 24 4;
      dirty = le_at s 1648 4;
    }

-- 3: version is 1
abbrev pub cowd_version_broken : CowdFields → Bool
cowd_version_broken k = not (eqb k.version 1)

-- 6: capacity 1 to 2^31; grain size a power of two, 1 to 2,048; then the stored count at least n
abbrev pub cowd_sizes_broken : CowdFields → Bool
cowd_sizes_broken k = capacity_broken k.capacity || grain_size_broken 1 k.grain_size

abbrev pub count_broken : CowdFields → Bool
count_broken k = ltb k.directory_entries (directory_entries k.capacity 4096 k.grain_size)

-- the first of 3 and 6 that is broken
unfoldable pub cowd_fault : CowdFields → Result (Unit {0}) Refusal
cowd_fault k =
    pick (cowd_version_broken k) (Err Version)
    (pick (cowd_sizes_broken k) (Err Sizes) (pick (count_broken k) (Err Sizes) (Ok tt)))
