-- The answers in document 01's numbers: a refusal's number and place, and for each answer its values.
use Rattle.std.specs.Prelude.{ℕ, eqb}
use Rattle.base.specs.Pick.{pick}
use Rattle.format.specs.declared.MisplacedPart.{MisplacedPart}
use Rattle.format.specs.declared.MisplacedPart.TheVariants.{Descriptor, Directory, RedundantDirectory}
use Rattle.format.specs.declared.MisplacedPart.TheVariants.{PrimaryTable, RedundantTable}
use Rattle.format.specs.declared.Refusal.{Refusal}
use Rattle.format.specs.declared.Refusal.TheVariants.{TooShort, Magic, Version, Newline, Flags, Sizes, Footer, Misplaced}
use Rattle.format.specs.declared.Refusal.TheVariants.{GrainPast, Marker, CopiesDiffer, SharedSector, SectorPast}
use Rattle.format.specs.declared.Refusal.TheVariants.{TooLittleRoom, LayersDiffer, NotCollapsible, LayerLengths}
use Rattle.format.specs.declared.Refusal.TheVariants.{StillOpen, NotMendable, NotClosable, NotNormal, KindGone}
use Rattle.format.specs.declared.Refusal.TheVariants.{NotMovable, ProfileSizes}
use Rattle.format.specs.declared.Source.{Source}
use Rattle.format.specs.declared.Source.TheVariants.{Absent, Zero, Stored, Packed}
use Rattle.format.specs.declared.MarkedAnswer.{MarkedAnswer}
use Rattle.format.specs.declared.numbers.Verdict.{Verdict}
use Rattle.format.specs.declared.numbers.Marked.{Marked}
use Rattle.format.specs.declared.numbers.Located.{Located}
use Rattle.format.specs.declared.numbers.Written.{Written}
use Rattle.format.specs.declared.numbers.Framed.{Framed}
use Rattle.format.specs.declared.numbers.Surveyed.{Surveyed}
use Rattle.format.specs.declared.numbers.Mended.{Mended}
use Rattle.format.specs.declared.numbers.Head.{Head}
use Rattle.format.specs.declared.closing.Closed.{Closed}
use Rattle.format.specs.declared.steps.Way.{Way}
use Rattle.format.specs.declared.steps.Steps.{Steps}
use Rattle.format.specs.declared.Side.{Side}
use Rattle.format.specs.declared.Side.TheVariants.{Primary, Redundant}
use Rattle.std.specs.Prelude.{Result, Ok, Err}
use Rattle.format.specs.declared.Header.{Header}
use Rattle.format.specs.declared.Shape.{Shape}
use Rattle.format.specs.declared.LayerSource.{LayerSource}
use Rattle.format.specs.declared.LayerRefusal.{LayerRefusal}
use Rattle.format.specs.declared.Totals.{Totals}
use Rattle.format.specs.declared.closing.Kept.{Kept}

-- ---- refusals: number and place
abbrev pub number : Refusal → ℕ
number TooShort = 1
number Magic = 2
number Version = 3
number Newline = 4
number Flags = 5
number Sizes = 6
number Footer = 7
number (Misplaced part) = 8
number (GrainPast g) = 9
number (Marker g) = 10
number CopiesDiffer = 11
number SharedSector = 12
number SectorPast = 20
number TooLittleRoom = 21
number LayersDiffer = 22
number NotCollapsible = 23
number LayerLengths = 24
number StillOpen = 27
number NotMendable = 40
number NotClosable = 41
number (NotNormal byte) = 42
number KindGone = 43
number NotMovable = 44
number ProfileSizes = 47

-- the parts of 8 (request A8)
abbrev pub part_number : MisplacedPart → ℕ
part_number Descriptor = 1
part_number Directory = 2
part_number RedundantDirectory = 3
part_number PrimaryTable = 4
part_number RedundantTable = 5

-- the part for 8 (the lowest that applies; in a lookup the directory or the sector's own table), the grain for 9 and 10 (the
-- lowest one at fault; in a lookup the sector's own), the byte for 42 (the first that differs), else 0
abbrev pub place : Refusal → ℕ
place TooShort = 0
place Magic = 0
place Version = 0
place Newline = 0
place Flags = 0
place Sizes = 0
place Footer = 0
place (Misplaced part) = part_number part
place (GrainPast g) = g
place (Marker g) = g
place CopiesDiffer = 0
place SharedSector = 0
place SectorPast = 0
place TooLittleRoom = 0
place LayersDiffer = 0
place NotCollapsible = 0
place LayerLengths = 0
place StillOpen = 0
place NotMendable = 0
place NotClosable = 0
place (NotNormal byte) = byte
place KindGone = 0
place NotMovable = 0
place ProfileSizes = 0

-- ---- a header alone: the descriptor's numbers and the dirty number as it has them. None is judged here: 8 and 27 are no rules
-- of the header
abbrev pub header_numbers : Result Header Refusal → Head
header_numbers (Ok h) = record {
  number = 0;
  place = 0;
  capacity = h.capacity;
  grain_size = h.grain_size;
  descriptor = h.descriptor;
  descriptor_sectors = h.descriptor_sectors;
  dirty = h.dirty;
}
header_numbers (Err r) = record {
  number = number r;
  place = place r;
  capacity = 0;
  grain_size = 0;
  descriptor = 0;
  descriptor_sectors = 0;
  dirty = 0;
}

-- ---- the check: capacity and grain size
abbrev pub verdict : Result Shape Refusal → Verdict
verdict (Ok sizes) = record { number = 0; place = 0; capacity = sizes.capacity; grain_size = sizes.grain_size }
verdict (Err r) = record { number = number r; place = place r; capacity = 0; grain_size = 0 }

-- ---- the check in a lent list: capacity, grain size and the sectors marked; on 12 their number stands beside two zeros
abbrev pub marked_numbers : MarkedAnswer → Marked
marked_numbers a =
    let v = verdict a.checked in
    record {
      number = v.number;
      place = v.place;
      capacity = v.capacity;
      grain_size = v.grain_size;
      marked = a.marked;
    }

-- ---- the lookup and the chain lookup: a layer and the kind of source: 0 absent, 1 zero, 2 stored, 3 packed
abbrev pub served : ℕ → Source → Located
served layer Absent = record { number = 0; layer = layer; place = 0; kind = 0; sector = 0; size = 0; offset = 0 }
served layer Zero = record { number = 0; layer = layer; place = 0; kind = 1; sector = 0; size = 0; offset = 0 }
served layer (Stored s) = record { number = 0; layer = layer; place = 0; kind = 2; sector = s; size = 0; offset = 0 }
served layer (Packed m n o) = record { number = 0; layer = layer; place = 0; kind = 3; sector = m; size = n; offset = o }

abbrev pub unserved : ℕ → Refusal → Located
unserved layer r = record { number = number r; layer = layer; place = place r; kind = 0; sector = 0; size = 0; offset = 0 }

abbrev pub located : Result Source Refusal → Located
located (Ok source) = served 0 source
located (Err r) = unserved 0 r

abbrev pub chained : Result LayerSource LayerRefusal → Located
chained (Ok a) = served a.layer a.source
chained (Err refused) = unserved refused.layer refused.refusal

-- ---- the way to a lookup's answer, and the answer: 1 where entry 1 means zeros
abbrev pub steps_numbers : Way → Result Source Refusal → Steps
steps_numbers w a =
    let told = located a in
    record {
      number = told.number;
      place = told.place;
      one_is_zero = pick w.one_is_zero 1 0;
      grain = w.grain;
      directory_at = w.directory_at;
      directory_entry = w.directory_entry;
      table_at = w.table_at;
      table_entry = w.table_entry;
      kind = told.kind;
      sector = told.sector;
      size = told.size;
      offset = told.offset;
    }

-- ---- collapse and normal form: the result's length in bytes
abbrev pub written : Result ℕ Refusal → Written
written (Ok long) = record { number = 0; place = 0; length = long }
written (Err r) = record { number = number r; place = place r; length = 0 }

-- ---- the frame: how many areas are listed
abbrev pub framed : Result ℕ Refusal → Framed
framed (Ok count) = record { number = 0; place = 0; count = count }
framed (Err r) = record { number = number r; place = place r; count = 0 }

-- ---- the survey: the four totals
abbrev pub surveyed : Result Totals Refusal → Surveyed
surveyed (Ok t) =
    record { number = 0; place = 0; stored = t.stored; zero = t.zero; absent = t.absent; packed = t.packed }
surveyed (Err r) =
    record { number = number r; place = place r; stored = 0; zero = 0; absent = 0; packed = 0 }

-- ---- mending: how many entries differed
-- the good side, named by a number: 0 is the primary, any other the redundant
abbrev pub side_of : ℕ → Side
side_of good = pick (eqb good 0) Primary Redundant

abbrev pub mended_numbers : Result ℕ Refusal → Mended
mended_numbers (Ok count) = record { number = 0; place = 0; count = count }
mended_numbers (Err r) = record { number = number r; place = place r; count = 0 }

-- ---- closing: kept sectors, kept grains, the tail's length in bytes
abbrev pub closed_numbers : Result Kept Refusal → Closed
closed_numbers (Ok kept) =
    record { number = 0; place = 0; sectors = kept.sectors; grains = kept.grains; length = kept.length }
closed_numbers (Err r) = record { number = number r; place = place r; sectors = 0; grains = 0; length = 0 }
