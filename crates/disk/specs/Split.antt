-- A disk cut into several files: a descriptor's text, the files of its extents in line order, end to end, and one length for
-- each extent, 0 for ZERO. For a virtual sector: the extent, from 0, and the source inside that file.
use Rattle.std.specs.Prelude.{ℕ, ◌+◌, ◌-◌, List, Bool, not, ◌||◌, eqb, length, get_or, take}
use Rattle.std.specs.Prelude.{Result, Ok, Err}
use Rattle.base.specs.Pick.{pick}
use Rattle.base.specs.Strings.{same_at}
use Rattle.descriptor.specs.Extents.{NOACCESS, FLAT, VMFS, SPARSE, ZERO}
use Rattle.descriptor.specs.Descriptor.{no_extent, read_text}
use Rattle.descriptor.specs.Records.{find_answer}
use Rattle.descriptor.specs.declared.Extent.{Extent}
use Rattle.descriptor.specs.declared.Parsed.{Parsed}
use Rattle.descriptor.specs.declared.TextRefusal.{TextRefusal}
use Rattle.descriptor.specs.Said.{text_number, text_place}
use Rattle.descriptor.specs.declared.Found.{Found as FoundRecord}
use Rattle.format.specs.Geometry.{file_sectors}
use Rattle.format.specs.Cowd.{cowd_magic}
use Rattle.format.specs.Areas.{area, ends_past}
use Rattle.format.specs.Check.{check}
use Rattle.format.specs.Source.{sector_lookup}
use Rattle.format.specs.Chain.{lengths_sum, layer_at}
use Rattle.format.specs.Answers.{served, unserved}
use Rattle.format.specs.declared.Refusal.TheVariants.{KindGone}
use Rattle.format.specs.declared.Source.{Source}
use Rattle.format.specs.declared.Source.TheVariants.{Zero, Stored}
use Rattle.format.specs.declared.numbers.Located.{Located}
use Rattle.format.specs.declared.Shape.{Shape}
use Rattle.format.specs.declared.LayerSource.{LayerSource}
use Rattle.format.specs.declared.Refusal.{Refusal}
use Rattle.disk.specs.declared.SplitRefusal.{SplitRefusal}
use Rattle.disk.specs.declared.SplitRefusal.TheVariants.{Unread, Lengths, SectorPast, NoAccess, OtherFile, Image}
use Rattle.disk.specs.declared.SplitRefusal.TheVariants.{CapacityDiffers}

-- ---- sector o of extent i, whose record is e and whose file is s
abbrev pub source_in : ℕ → Source → Result LayerSource SplitRefusal
source_in i source = Ok (record { layer = i; source = source })

-- ZERO is zeros, and its file is empty, else 45
unfoldable pub in_zero : List ℕ → ℕ → Result LayerSource SplitRefusal
in_zero s i = pick (eqb (length s) 0) (source_in i Zero) (Err (OtherFile i))

-- FLAT and VMFS are plain sectors from the offset on, all of which lie in the file, else 45
unfoldable pub in_plain : List ℕ → Extent → ℕ → ℕ → Result LayerSource SplitRefusal
in_plain s e i o =
    pick (ends_past (file_sectors s) (area e.offset e.sectors)) (Err (OtherFile i)) (source_in i (Stored (e.offset + o)))

-- the image's own lookup; where it is accepted no sector of it is refused
unfoldable pub looked_up : ℕ → Result Source Refusal → Result LayerSource SplitRefusal
looked_up i (Ok source) = source_in i source
looked_up i (Err r) = Err (Image i r)

-- an image: accepted, else its own number; then its capacity is the line's sectors, else 38
unfoldable pub in_accepted : List ℕ → Extent → ℕ → ℕ → Result Shape Refusal → Result LayerSource SplitRefusal
in_accepted s e i o (Err r) = Err (Image i r)
in_accepted s e i o (Ok sizes) =
    pick (eqb sizes.capacity e.sectors) (looked_up i (sector_lookup s o)) (Err (CapacityDiffers i))

-- SPARSE is a KDMV image; COWD's magic is 45
unfoldable pub in_image : List ℕ → Extent → ℕ → ℕ → Result LayerSource SplitRefusal
in_image s e i o = pick (same_at s 0 cowd_magic) (Err (OtherFile i)) (in_accepted s e i o (check s))

-- VMFSSPARSE, which is left, is COWD, and so 43 by the line alone (request A13)
unfoldable pub by_type : List ℕ → Extent → ℕ → ℕ → Result LayerSource SplitRefusal
by_type s e i o =
    pick (eqb e.kind ZERO) (in_zero s i)
    (pick (eqb e.kind FLAT || eqb e.kind VMFS) (in_plain s e i o)
    (pick (eqb e.kind SPARSE) (in_image s e i o) (Err (Image i KindGone))))

-- NOACCESS is 39
unfoldable pub in_extent : List ℕ → Extent → ℕ → ℕ → Result LayerSource SplitRefusal
in_extent s e i o = pick (eqb e.access NOACCESS) (Err (NoAccess i)) (by_type s e i o)

-- ---- the whole disk, as its descriptor comes to p
-- 24: the number of lengths is not the number of extents, or their sum, counted exactly, is not the slice's length
abbrev pub split_lengths_broken : ℕ → List ℕ → List ℕ → Bool
split_lengths_broken count files lengths = not (eqb (length lengths) count) || not (eqb (lengths_sum lengths) (length files))

-- the extents of the text
abbrev pub extents_of : Parsed → List Extent
extents_of p = take p.count p.records

-- the extent that holds the sector, else 20; only its own file is judged
unfoldable pub at_extent : List ℕ → List ℕ → List Extent → ℕ → FoundRecord → Result LayerSource SplitRefusal
at_extent files lengths extents x f =
    let e = get_or extents f.extent no_extent in
    pick (eqb f.number 0) (in_extent (layer_at files lengths f.extent) e f.extent (x - e.first)) (Err SectorPast)

-- the descriptor's numbers, 24, 20, then the extent's
unfoldable pub split_from : List ℕ → List ℕ → ℕ → Result Parsed TextRefusal → Result LayerSource SplitRefusal
split_from files lengths x (Ok p) =
    pick (split_lengths_broken p.count files lengths) (Err Lengths)
    (at_extent files lengths (extents_of p) x (find_answer (extents_of p) x))
split_from files lengths x (Err r) = Err (Unread (text_number r) (text_place r))

abbrev pub split : List ℕ → List ℕ → List ℕ → ℕ → Result LayerSource SplitRefusal
split text files lengths x = split_from files lengths x (read_text text)

-- ---- the answer in document 02's numbers: the layer is the extent, 0 for the text's numbers, 24 and 20
abbrev pub unsplit : ℕ → ℕ → ℕ → Located
unsplit number extent place =
    record { number = number; layer = extent; place = place; kind = 0; sector = 0; size = 0; offset = 0 }

abbrev pub split_numbers : Result LayerSource SplitRefusal → Located
split_numbers (Ok a) = served a.layer a.source
split_numbers (Err (Unread n p)) = unsplit n 0 p
split_numbers (Err Lengths) = unsplit 24 0 0
split_numbers (Err SectorPast) = unsplit 20 0 0
split_numbers (Err (NoAccess i)) = unsplit 39 i 0
split_numbers (Err (OtherFile i)) = unsplit 45 i 0
split_numbers (Err (Image i r)) = unserved i r
split_numbers (Err (CapacityDiffers i)) = unsplit 38 i 0
