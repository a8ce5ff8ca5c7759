-- An extent line: access, sectors, type, quoted name, offset, one or more spaces or tabs between; none, which is 34, if one
-- of them is at fault. `first` is the extent's first virtual sector, `end` the place where the line ends, v what is left of the
-- line.
use Rattle.std.specs.Prelude.{ℕ, List, Bool, ◌||◌, ltb, eqb, Option, None, Some, option_and_then}
use Rattle.base.specs.Pick.{pick}
use Rattle.base.specs.Strings.{same_word, ascii}
use Rattle.descriptor.specs.declared.Stop.TheVariants.{NotBlank}
use Rattle.descriptor.specs.declared.Access.{Access}
use Rattle.descriptor.specs.declared.Access.TheVariants.{ReadWrite, ReadOnly, NoAccess}
use Rattle.descriptor.specs.declared.Kind.{Kind}
use Rattle.descriptor.specs.declared.Kind.TheVariants.{Flat, Vmfs, Sparse, VmfsSparse, Zero}
use Rattle.descriptor.specs.declared.Extent.{Extent}
use Rattle.descriptor.specs.Words.{empty, count_before, rest, word, after_word, decimal_value, quoted_length, quoted_place}
use Rattle.descriptor.specs.Words.{after_quoted}

-- ---- fixed words
-- the numbers of accesses and types in a record
abbrev pub RW : ℕ
RW = 1

abbrev pub RDONLY : ℕ
RDONLY = 2

abbrev pub NOACCESS : ℕ
NOACCESS = 3

abbrev pub FLAT : ℕ
FLAT = 1

abbrev pub VMFS : ℕ
VMFS = 2

abbrev pub SPARSE : ℕ
SPARSE = 3

abbrev pub VMFSSPARSE : ℕ
VMFSSPARSE = 4

abbrev pub ZERO : ℕ
ZERO = 5

abbrev pub access_number : Access → ℕ
access_number ReadWrite = RW
access_number ReadOnly = RDONLY
access_number NoAccess = NOACCESS

abbrev pub kind_number : Kind → ℕ
kind_number Flat = FLAT
kind_number Vmfs = VMFS
kind_number Sparse = SPARSE
kind_number VmfsSparse = VMFSSPARSE
kind_number Zero = ZERO

-- the access is RW, RDONLY or NOACCESS
unfoldable pub access_of : List ℕ → Option Access
access_of w =
    pick (same_word w (ascii "rw")) (Some ReadWrite)
    (pick (same_word w (ascii "rdonly")) (Some ReadOnly) (pick (same_word w (ascii "noaccess")) (Some NoAccess) None))

-- the type is FLAT, VMFS, SPARSE, VMFSSPARSE or ZERO
unfoldable pub type_of : List ℕ → Option Kind
type_of w =
    pick (same_word w (ascii "flat")) (Some Flat)
    (pick (same_word w (ascii "vmfs")) (Some Vmfs)
    (pick (same_word w (ascii "sparse")) (Some Sparse)
    (pick (same_word w (ascii "vmfssparse")) (Some VmfsSparse) (pick (same_word w (ascii "zero")) (Some Zero) None))))

-- ---- what is refused
-- sectors are 1 to 2^31
abbrev pub sectors_bad : ℕ → Bool
sectors_bad sectors = eqb sectors 0 || ltb 0x80000000 sectors

-- names have 1 to 255 bytes
abbrev pub name_bad : ℕ → Bool
name_bad name_length = eqb name_length 0 || ltb 255 name_length

-- offsets are 0 to 2^32-1
abbrev pub offset_bad : ℕ → Bool
offset_bad offset = ltb 0xffffffff offset

-- ---- the offset
-- one or more spaces or tabs stand before a decimal, and nothing after it
unfoldable pub blanks_then_decimal_at : ℕ → List ℕ → Option ℕ
blanks_then_decimal_at blanks v = pick (eqb blanks 0) None (decimal_value v)

-- the decimal in v, behind the spaces or tabs that v starts with
abbrev pub blanks_then_decimal : List ℕ → Option ℕ
blanks_then_decimal v = blanks_then_decimal_at (count_before NotBlank v) (rest NotBlank v)

-- after the name: FLAT needs an offset, VMFS has maybe one (else 0), SPARSE and VMFSSPARSE have a name only
unfoldable pub offset_of : Kind → List ℕ → Option ℕ
offset_of Flat v = blanks_then_decimal v
offset_of Vmfs v = pick (empty v) (Some 0) (blanks_then_decimal v)
offset_of _ v = pick (empty v) (Some 0) None

-- ---- the fields: `from_sectors`, the last one here, reads them from left to right
-- the record: first virtual sector, sectors, access, type, name's place and length, offset
abbrev pub extent : ℕ → Access → ℕ → Kind → ℕ → ℕ → ℕ → Extent
extent first access sectors kind name_at name_length offset =
    record {
      first = first;
      sectors = sectors;
      access = access_number access;
      kind = kind_number kind;
      name_at = name_at;
      name_length = name_length;
      offset = offset;
    }

-- the name and the offset are judged
abbrev pub with_name : ℕ → Access → ℕ → Kind → ℕ → ℕ → ℕ → Option Extent
with_name first access sectors kind name_at name_length offset =
    pick (name_bad name_length) None
    (pick (offset_bad offset) None (Some (extent first access sectors kind name_at name_length offset)))

-- v is the quoted name and what stands after it
unfoldable pub from_name : ℕ → ℕ → Access → ℕ → Kind → List ℕ → Option Extent
from_name first end access sectors kind v =
    option_and_then
    (λ n. option_and_then (with_name first access sectors kind (quoted_place end v) n) (offset_of kind (after_quoted n v)))
    (quoted_length v)

-- ZERO has neither name nor offset, every other type needs a name; what a line doesn't have is 0
unfoldable pub with_type : ℕ → ℕ → Access → ℕ → List ℕ → Kind → Option Extent
with_type first end access sectors v Zero = pick (empty v) (Some (extent first access sectors Zero 0 0 0)) None
with_type first end access sectors v kind = from_name first end access sectors kind v

-- v is the type and what stands after it
abbrev pub from_type : ℕ → ℕ → Access → ℕ → List ℕ → Option Extent
from_type first end access sectors v = option_and_then (with_type first end access sectors (after_word v)) (type_of (word v))

-- the sectors are judged
unfoldable pub with_sectors : ℕ → ℕ → Access → List ℕ → ℕ → Option Extent
with_sectors first end access v sectors = pick (sectors_bad sectors) None (from_type first end access sectors v)

-- v is the sectors and what stands after them
abbrev pub from_sectors : ℕ → ℕ → Access → List ℕ → Option Extent
from_sectors first end access v =
    option_and_then (with_sectors first end access (after_word v)) (decimal_value (word v))
