-- The header of an image of either kind: what it tells, and refusals 1 to 7 and 43 in their order.
use Rattle.std.specs.Prelude.{ℕ, List, Bool, true, false, ◌&&◌, ◌||◌, ltb, eqb, length}
use Rattle.base.specs.Pick.{pick}
use Rattle.base.specs.Strings.{same_at}
use Rattle.format.specs.Geometry.{grains, directory_entries, directory_sectors}
use Rattle.format.specs.Kdmv.{kdmv_magic, kdmv_fields, flag_set, at_end, kdmv_fault, footer_directory, footer_broken}
use Rattle.format.specs.Cowd.{cowd_magic, cowd_fields, cowd_fault}
use Rattle.format.specs.declared.KdmvFields.{KdmvFields}
use Rattle.format.specs.declared.CowdFields.{CowdFields}
use Rattle.format.specs.declared.Header.{Header}
use Rattle.format.specs.declared.Refusal.TheVariants.{TooShort, Magic, Footer, KindGone}
use Rattle.format.specs.declared.Taken.{Taken}
use Rattle.format.specs.declared.Taken.TheVariants.{KdmvAlone, Either}
use Rattle.std.specs.Prelude.{Result, Ok, Err}
use Rattle.format.specs.declared.Refusal.{Refusal}

-- ---- what all calls have to know, of either kind
-- when entry 1 means zeros: in a KDMV image of version 2 or 3 with flag 0x4. In any other, and in COWD, it is sector 1
abbrev pub kdmv_one_is_zero : KdmvFields → Bool
kdmv_one_is_zero k = (eqb k.version 2 || eqb k.version 3) && flag_set k.flags 0x4

-- a KDMV image: 512 entries a table, which takes 4 sectors. `directory` is the sector of the directory that counts
unfoldable pub kdmv_header : KdmvFields → ℕ → Header
kdmv_header k directory =
    record {
      cowd = false;
      capacity = k.capacity;
      grain_size = k.grain_size;
      header_sectors = 1;
      descriptor = k.descriptor;
      descriptor_sectors = k.descriptor_sectors;
      directory = directory;
      directory_sectors = directory_sectors (directory_entries k.capacity 512 k.grain_size);
      redundant = k.redundant;
      entries_per_table = 512;
      table_sectors = 4;
      one_is_zero = kdmv_one_is_zero k;
      packed = flag_set k.flags 0x10000;
      footer = at_end k;
      dirty = k.dirty;
    }

-- a COWD image: 4,096 entries a table, which takes 32 sectors. The stored count gives the directory's area
unfoldable pub cowd_header : CowdFields → Header
cowd_header k =
    record {
      cowd = true;
      capacity = k.capacity;
      grain_size = k.grain_size;
      header_sectors = 4;
      descriptor = 0;
      descriptor_sectors = 0;
      directory = k.directory;
      directory_sectors = directory_sectors k.directory_entries;
      redundant = 0;
      entries_per_table = 4096;
      table_sectors = 32;
      one_is_zero = false;
      packed = false;
      footer = false;
      dirty = k.dirty;
    }

-- the footer's directory sector counts, where there is a footer
unfoldable pub directory_of : List ℕ → KdmvFields → ℕ
directory_of s k = pick (at_end k) (footer_directory s) k.directory

abbrev pub kdmv_header_of : List ℕ → Header
kdmv_header_of s = kdmv_header (kdmv_fields s) (directory_of s (kdmv_fields s))

abbrev pub cowd_header_of : List ℕ → Header
cowd_header_of s = cowd_header (cowd_fields s)

-- the header that judging gives, where it gives one; elsewhere it has no meaning
unfoldable pub header_of : List ℕ → Header
header_of s = pick (same_at s 0 kdmv_magic) (kdmv_header_of s) (cowd_header_of s)

-- the grains and the directory entries in use
abbrev pub grains_of : Header → ℕ
grains_of h = grains h.capacity h.grain_size

abbrev pub directory_entries_of : Header → ℕ
directory_entries_of h = directory_entries h.capacity h.entries_per_table h.grain_size

-- ---- the order of refusals: 1, 2, then by kind. A COWD image is 43 after 1, where its kind is not taken
unfoldable pub unless_fault : Result (Unit {0}) Refusal → Result Header Refusal → Result Header Refusal
unless_fault (Ok tt) a = a
unless_fault (Err r) a = Err r

-- 7 is judged where the directory is at the end
unfoldable pub with_footer : List ℕ → Bool → Header → Result Header Refusal
with_footer s end h = pick end (pick (footer_broken s) (Err Footer) (Ok h)) (Ok h)

unfoldable pub judge_kdmv : List ℕ → Result Header Refusal
judge_kdmv s =
    pick (ltb (length s) 512) (Err TooShort)
    (unless_fault (kdmv_fault (kdmv_fields s)) (with_footer s (at_end (kdmv_fields s)) (kdmv_header_of s)))

unfoldable pub kind_gone : Taken → Bool
kind_gone KdmvAlone = true
kind_gone Either = false

unfoldable pub judge_cowd : Taken → List ℕ → Result Header Refusal
judge_cowd taken s =
    pick (ltb (length s) 2048) (Err TooShort)
    (pick (kind_gone taken) (Err KindGone) (unless_fault (cowd_fault (cowd_fields s)) (Ok (cowd_header_of s))))

unfoldable pub judge_of : Taken → List ℕ → Result Header Refusal
judge_of taken s =
    pick (ltb (length s) 4) (Err TooShort)
    (pick (same_at s 0 kdmv_magic) (judge_kdmv s) (pick (same_at s 0 cowd_magic) (judge_cowd taken s) (Err Magic)))

-- every call but the moves takes KDMV alone
abbrev pub judge : List ℕ → Result Header Refusal
judge s = judge_of KdmvAlone s

-- ---- a start (request A12), which has no footer yet: 7 is not judged, and the directory sector is as sector 0 has it
abbrev pub start_of : List ℕ → Header
start_of s = kdmv_header (kdmv_fields s) (kdmv_fields s).directory

unfoldable pub judge_kdmv_start : List ℕ → Result Header Refusal
judge_kdmv_start s = pick (ltb (length s) 512) (Err TooShort)
    (unless_fault (kdmv_fault (kdmv_fields s)) (Ok (start_of s)))

unfoldable pub judge_start : List ℕ → Result Header Refusal
judge_start s =
    pick (ltb (length s) 4) (Err TooShort)
    (pick (same_at s 0 kdmv_magic) (judge_kdmv_start s)
    (pick (same_at s 0 cowd_magic) (judge_cowd KdmvAlone s) (Err Magic)))
