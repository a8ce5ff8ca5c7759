-- Disks of several files on both sides of each edge: 24, 20, 39, 45, an image's own numbers, 38, and each type's source.
use Prim.Native.Nat.{ℕ}
use mathlib.Core.List.{List, [], ◌∷◌, ◌++◌}
use mathlib.Core.Path.{◌≡◌, refl}
use Rattle.base.specs.Pick.{pick}
use Rattle.base.specs.Rounding.{power_up_to}
use Rattle.base.specs.Numbers.{le_at, le_bytes}
use Rattle.base.specs.Strings.{same_at, same_word, ascii}
use Rattle.base.specs.Bytes.{over, zeros}
use Rattle.base.specs.Rows.{rows}
use Rattle.descriptor.specs.Words.{count_before, kept, digit_value, numeral_from, numeral, to_quote_at, quoted_length}
use Rattle.descriptor.specs.Text.{lines_from}
use Rattle.descriptor.specs.Extents.{access_of, type_of, blanks_then_decimal_at, blanks_then_decimal, offset_of, extent}
use Rattle.descriptor.specs.Extents.{with_name}
use Rattle.descriptor.specs.Extents.{from_name, with_type, with_sectors}
use Rattle.descriptor.specs.Keys.{key_of, version_is, create_type_is, value_of, with_key, split_at}
use Rattle.descriptor.specs.Line.{line_with}
use Rattle.descriptor.specs.Descriptor.{skipped, opened, added, noted, once, judged_line, step, judged_end, ended}
use Rattle.descriptor.specs.Descriptor.{judged, judged_text, needed, accepted, read_text}
use Rattle.descriptor.specs.Records.{found_from}
use Rattle.descriptor.specs.declared.Extent.{Extent}
use Rattle.format.specs.Geometry.{grains, directory_entries, directory_sectors}
use Rattle.format.specs.Kdmv.{kdmv_fields, kdmv_fault}
use Rattle.format.specs.Header.{kdmv_header, directory_of, unless_fault, with_footer, judge_kdmv, judge_cowd, judge_of}
use Rattle.format.specs.Entries.{meaning, in_table, entry_of_grain, grain_sectors}
use Rattle.format.specs.Areas.{if_there, named, redundant_tables, areas, runs_past, shares, shares_any, meet}
use Rattle.format.specs.Check.{misplaced, lowest_from, copies_differ, unless_grain, check_apart, check_copies, check_grains}
use Rattle.format.specs.Check.{check_layout, check_from}
use Rattle.format.specs.Source.{grain_source, lookup_grain, lookup_entry, lookup_table, lookup_in, lookup_from}
use Rattle.format.specs.Chain.{lengths_sum}
use Rattle.format.specs.declared.Source.TheVariants.{Zero, Stored}
use Rattle.format.specs.declared.Refusal.TheVariants.{TooShort, Magic, GrainPast, KindGone}
use Rattle.disk.specs.Split.{source_in, in_zero, in_plain, looked_up, in_accepted, in_image, by_type, in_extent, at_extent}
use Rattle.disk.specs.Split.{split_from}
use Rattle.disk.specs.Split.{split, split_numbers}
use Rattle.examples.specs.Images.{small}
use Rattle.examples.proofs.AcceptedSmall.{cowd_small}
use Rattle.std.specs.Prelude.{Result, Err}
use Rattle.format.specs.declared.LayerSource.{LayerSource}
use Rattle.disk.specs.declared.SplitRefusal.{SplitRefusal}
use Rattle.disk.specs.declared.SplitRefusal.TheVariants.{Unread, Lengths, SectorPast, NoAccess, OtherFile, Image}
use Rattle.disk.specs.declared.SplitRefusal.TheVariants.{CapacityDiffers}

-- ---- four extents of five sectors: two of a file of three, zeros, NOACCESS, one of a file of one
abbrev text : List ℕ
text =
    ascii "# Disk DescriptorFile\nversion=1\nCID=1\nparentCID=1\ncreateType=\"\"\n"
    ++ ascii "RW 2 FLAT \"a\" 1\nRW 1 ZERO\nNOACCESS 1 ZERO\nRDONLY 1 VMFS \"b\""

-- sector x, where the files are four sectors of zeros
abbrev asked : List ℕ → ℕ → Result LayerSource SplitRefusal
asked lengths x = split text (zeros 2048) lengths x

pub disk_served :
    (asked (1536 ∷ 0 ∷ 0 ∷ 512 ∷ []) 0 ≡ source_in 0 (Stored 1))
    × (asked (1536 ∷ 0 ∷ 0 ∷ 512 ∷ []) 1 ≡ source_in 0 (Stored 2))
    × (asked (1536 ∷ 0 ∷ 0 ∷ 512 ∷ []) 2 ≡ source_in 1 Zero)
    × (asked (1536 ∷ 0 ∷ 0 ∷ 512 ∷ []) 3 ≡ Err (NoAccess 2))
    × (asked (1536 ∷ 0 ∷ 0 ∷ 512 ∷ []) 4 ≡ source_in 3 (Stored 0))
    × (asked (1536 ∷ 0 ∷ 0 ∷ 512 ∷ []) 5 ≡ Err SectorPast)
    -- a length too few, one too many, a byte too few: 24, which comes before 20
    × (asked (1536 ∷ 0 ∷ 512 ∷ []) 0 ≡ Err Lengths)
    × (asked (1536 ∷ 0 ∷ 0 ∷ 512 ∷ 0 ∷ []) 0 ≡ Err Lengths)
    × (asked (1535 ∷ 0 ∷ 0 ∷ 512 ∷ []) 5 ≡ Err Lengths)
    -- a sum of 2^64 more than the files have
    × (asked (1536 ∷ 0xffffffffffffffff ∷ 1 ∷ 512 ∷ []) 0 ≡ Err Lengths)
    -- 45: the file ends inside the line; a byte of ZERO; another extent's file is not judged, and 39 comes first
    × (asked (1535 ∷ 1 ∷ 0 ∷ 512 ∷ []) 0 ≡ Err (OtherFile 0))
    × (asked (1535 ∷ 1 ∷ 0 ∷ 512 ∷ []) 2 ≡ Err (OtherFile 1))
    × (asked (1535 ∷ 0 ∷ 1 ∷ 512 ∷ []) 3 ≡ Err (NoAccess 2))
    × (asked (1535 ∷ 1 ∷ 0 ∷ 512 ∷ []) 4 ≡ source_in 3 (Stored 0))
    -- the descriptor's own numbers come first
    × (split [] [] (0 ∷ []) 0 ≡ Err (Unread 30 0))
    × (split (text ++ ascii "\nRW 0 ZERO") (zeros 2048) [] 9 ≡ Err (Unread 34 10))
unfolding pick same_word count_before kept digit_value numeral_from numeral to_quote_at quoted_length lines_from access_of type_of blanks_then_decimal_at offset_of from_name with_type with_sectors key_of version_is create_type_is value_of with_key split_at line_with skipped opened added noted once judged_line step judged_end ended judged read_text found_from lengths_sum zeros in_zero in_plain by_type in_extent at_extent split_from
disk_served = (refl, refl, refl, refl, refl, refl, refl, refl, refl, refl, refl, refl, refl, refl, refl, refl)

-- ---- one extent: access, type, sectors, offset
abbrev line : ℕ → ℕ → ℕ → ℕ → Extent
line access kind sectors offset =
    record {
      first = 0;
      sectors = sectors;
      access = access;
      kind = kind;
      name_at = 0;
      name_length = 1;
      offset = offset;
    }

pub images_served :
    -- SPARSE: grain 0 at sector 8 of 16
    (in_extent (small 8 0 0 10) (line 1 3 16 0) 7 3 ≡ source_in 7 (Stored 11))
    -- 38 comes after the image's own numbers, and 45 before them
    × (in_extent (small 8 0 0 10) (line 1 3 15 0) 7 3 ≡ Err (CapacityDiffers 7))
    × (in_extent (small 9 0 0 10) (line 1 3 15 0) 7 3 ≡ Err (Image 7 (GrainPast 0)))
    × (in_extent (ascii "COWD") (line 1 3 16 0) 7 3 ≡ Err (OtherFile 7))
    × (in_extent cowd_small (line 1 3 1 0) 7 0 ≡ Err (OtherFile 7))
    × (in_extent (ascii "COW") (line 1 3 16 0) 7 3 ≡ Err (Image 7 TooShort))
    × (in_extent (ascii "KDMW") (line 1 3 16 0) 7 3 ≡ Err (Image 7 Magic))
    -- VMFSSPARSE is 43 by the line, whatever its file holds
    × (in_extent cowd_small (line 1 4 1 0) 7 0 ≡ Err (Image 7 KindGone))
    × (in_extent (small 8 0 0 10) (line 1 4 16 0) 7 3 ≡ Err (Image 7 KindGone))
    × (in_extent [] (line 1 4 16 0) 7 3 ≡ Err (Image 7 KindGone))
    -- a COWD file is plain sectors under FLAT
    × (in_extent cowd_small (line 1 1 1 0) 7 0 ≡ source_in 7 (Stored 0))
    -- NOACCESS is 39, whatever the type and the file
    × (in_extent (ascii "COWD") (line 3 3 16 0) 7 3 ≡ Err (NoAccess 7))
    × (in_extent cowd_small (line 3 4 1 0) 7 0 ≡ Err (NoAccess 7))
    -- plain sectors to the end of the file, and one more
    × (in_extent (zeros 1535) (line 2 2 1 1) 7 0 ≡ source_in 7 (Stored 1))
    × (in_extent (zeros 1535) (line 2 2 2 1) 7 0 ≡ Err (OtherFile 7))
unfolding pick power_up_to le_at le_bytes same_at over zeros rows grains directory_entries directory_sectors kdmv_fields kdmv_fault kdmv_header directory_of unless_fault with_footer judge_kdmv judge_cowd judge_of meaning in_table entry_of_grain grain_sectors if_there named redundant_tables areas runs_past shares shares_any meet misplaced lowest_from copies_differ unless_grain check_apart check_copies check_grains check_layout check_from grain_source lookup_grain lookup_entry lookup_table lookup_in lookup_from in_plain looked_up in_accepted in_image by_type in_extent
images_served = (refl, refl, refl, refl, refl, refl, refl, refl, refl, refl, refl, refl, refl, refl, refl)

-- ---- the answer in numbers: number, layer, place, kind, sector, size, offset
abbrev numbers : Result LayerSource SplitRefusal → List ℕ
numbers a =
    let l = split_numbers a in l.number ∷ l.layer ∷ l.place ∷ l.kind ∷ l.sector ∷ l.size ∷ l.offset ∷ []

pub split_told :
    (numbers (source_in 7 (Stored 11)) ≡ 0 ∷ 7 ∷ 0 ∷ 2 ∷ 11 ∷ 0 ∷ 0 ∷ [])
    × (numbers (Err (Unread 34 10)) ≡ 34 ∷ 0 ∷ 10 ∷ 0 ∷ 0 ∷ 0 ∷ 0 ∷ [])
    × (numbers (Err Lengths) ≡ 24 ∷ 0 ∷ 0 ∷ 0 ∷ 0 ∷ 0 ∷ 0 ∷ [])
    × (numbers (Err SectorPast) ≡ 20 ∷ 0 ∷ 0 ∷ 0 ∷ 0 ∷ 0 ∷ 0 ∷ [])
    × (numbers (Err (NoAccess 7)) ≡ 39 ∷ 7 ∷ 0 ∷ 0 ∷ 0 ∷ 0 ∷ 0 ∷ [])
    × (numbers (Err (OtherFile 7)) ≡ 45 ∷ 7 ∷ 0 ∷ 0 ∷ 0 ∷ 0 ∷ 0 ∷ [])
    × (numbers (Err (Image 7 (GrainPast 5))) ≡ 9 ∷ 7 ∷ 5 ∷ 0 ∷ 0 ∷ 0 ∷ 0 ∷ [])
    × (numbers (Err (CapacityDiffers 7)) ≡ 38 ∷ 7 ∷ 0 ∷ 0 ∷ 0 ∷ 0 ∷ 0 ∷ [])
split_told = (refl, refl, refl, refl, refl, refl, refl, refl)
