-- The KDMV header, sector 0: its fields, and its rules, each true where it is broken.
use Rattle.std.specs.Prelude.{ℕ, ◌+◌, ◌-◌, ◌*◌, ◌/◌, ◌%◌, List, [], ◌∷◌, Bool, true, not, ◌&&◌, ◌||◌, ltb, eqb, length}
use Rattle.base.specs.Pick.{pick}
use Rattle.base.specs.Rounding.{power_up_to}
use Rattle.base.specs.Numbers.{le_at}
use Rattle.base.specs.Strings.{same_at}
use Rattle.base.specs.Bytes.{zeros}
use Rattle.format.specs.Geometry.{file_sectors, bytes_at}
use Rattle.format.specs.declared.KdmvFields.{KdmvFields}
use Rattle.format.specs.declared.Refusal.TheVariants.{Version, Newline, Flags, Sizes}
use Rattle.std.specs.Prelude.{Result, Ok, Err}
use Rattle.format.specs.declared.Refusal.{Refusal}

abbrev pub kdmv_magic : List ℕ
kdmv_magic = 0x4b ∷ 0x44 ∷ 0x4d ∷ 0x56 ∷ []

abbrev pub newline_bytes : List ℕ
newline_bytes = 0x0a ∷ 0x20 ∷ 0x0d ∷ 0x0a ∷ []

-- offset and size of each field. Overhead (64,8) and padding (79,433) are not judged; nor is dirty, which 27 asks for
unfoldable pub kdmv_fields : List ℕ → KdmvFields
kdmv_fields s =
    record {
      version = le_at s 4 4;
      flags = le_at s 8 4;
      capacity = le_at s 12 8;
      grain_size = le_at s 20 8;
      descriptor = le_at s 28 8;
      descriptor_sectors = le_at s 36 8;
      entries_per_table = le_at s 44 4;
      redundant = le_at s 48 8;
      directory = le_at s 56 8;
      dirty = le_at s 72 1;
      newline = same_at s 73 newline_bytes;
      compression = le_at s 77 2;
    }

-- ---- 3: version is 1, 2 or 3
abbrev pub version_broken : KdmvFields → Bool
version_broken k = eqb k.version 0 || ltb 3 k.version

-- ---- flags
-- flag b, a power of two, is set in f
abbrev pub flag_set : ℕ → ℕ → Bool
flag_set f b = eqb (f / b % 2) 1

-- what flag b counts in f: b if it is set, else 0
abbrev pub flag_value : ℕ → ℕ → ℕ
flag_value f b = b * (f / b % 2)

-- 4: if 0x1 is set, the newline bytes are right
abbrev pub newline_broken : KdmvFields → Bool
newline_broken k = flag_set k.flags 0x1 && not k.newline

-- the directory stands at the end, where a footer tells its sector
abbrev pub all_ones : ℕ
all_ones = 0xffffffffffffffff

abbrev pub at_end : KdmvFields → Bool
at_end k = eqb k.directory all_ones

-- 5: no bit but the five; compression is 1 exactly when 0x10000 is set, else 0; 0x20000 needs 0x10000; 0x2 needs a redundant
-- directory; 0x4 needs version 2 or 3; a directory at the end needs 0x20000
abbrev pub other_flags : ℕ → Bool
other_flags f = not (eqb f (flag_value f 0x1 + flag_value f 0x2 + flag_value f 0x4 + flag_value f 0x10000 + flag_value f
    0x20000))

abbrev pub flags_broken : KdmvFields → Bool
flags_broken k =
    other_flags k.flags
    || (not (eqb k.compression (k.flags / 0x10000 % 2))
    || ((flag_set k.flags 0x20000 && not (flag_set k.flags 0x10000))
    || ((flag_set k.flags 0x2 && eqb k.redundant 0)
    || ((flag_set k.flags 0x4 && eqb k.version 1) || (at_end k && not (flag_set k.flags 0x20000))))))

-- ---- 6: capacity 1 to 2^31; grain size a power of two, `least` to 2,048; entries per table 512
abbrev pub capacity_broken : ℕ → Bool
capacity_broken c = eqb c 0 || ltb 0x80000000 c

abbrev pub grain_size_broken : ℕ → ℕ → Bool
grain_size_broken least grain_size = ltb grain_size least || not (power_up_to 11 grain_size)

abbrev pub kdmv_sizes_broken : KdmvFields → Bool
kdmv_sizes_broken k =
    capacity_broken k.capacity || (grain_size_broken 8 k.grain_size || not (eqb k.entries_per_table 512))

-- the first of 3 to 6 that is broken
unfoldable pub kdmv_fault : KdmvFields → Result (Unit {0}) Refusal
kdmv_fault k =
    pick (version_broken k) (Err Version)
    (pick (newline_broken k) (Err Newline)
    (pick (flags_broken k) (Err Flags) (pick (kdmv_sizes_broken k) (Err Sizes) (Ok tt))))

-- ---- 7: the footer, sector F-2, and the last sector, F-1. Both count only where F is at least 4
abbrev pub footer_at : List ℕ → ℕ
footer_at s = 512 * (file_sectors s - 2)

abbrev pub last_at : List ℕ → ℕ
last_at s = 512 * (file_sectors s - 1)

abbrev pub footer_directory : List ℕ → ℕ
footer_directory s = le_at s (footer_at s + 56) 8

-- sector F-2 is not equal to sector 0 in all bytes but 56 to 63
abbrev pub footer_differs : List ℕ → Bool
footer_differs s = not (same_at s (footer_at s) (bytes_at s 0 56) && same_at s (footer_at s + 64) (bytes_at s 64 448))

-- sector F-1 is not all zero
abbrev pub last_not_zero : List ℕ → Bool
last_not_zero s = not (same_at s (last_at s) (zeros 512))

-- length a multiple of 512, F at least 4, sector F-2 as sector 0, sector F-1 all zero, the footer's directory not at the end
-- again
unfoldable pub footer_broken : List ℕ → Bool
footer_broken s =
    pick (ltb 0 (length s % 512)) true
    (pick (ltb (file_sectors s) 4) true
    (pick (footer_differs s) true (pick (last_not_zero s) true (eqb (footer_directory s) all_ones))))
