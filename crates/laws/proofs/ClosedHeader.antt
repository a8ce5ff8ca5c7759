-- The header of a closed image (request A12): its fields are the start's, its footer is sector 0 with the new directory
-- sector, and all header rules hold.
use Prim.Native.Nat.{ℕ, ◌+◌, ◌*◌, ◌≤◌, ◌<◌}
use mathlib.Core.Path.{◌≡◌, refl, sym, ◌∙◌}
use mathlib.Core.List.{List, [], ◌∷◌}
use mathlib.Core.Bool.{true}
use native.Mathlib.Omega.{arith}
use native.Mathlib.Nat.{mul-le-mul_left}
use lib.ListN.{length, get_or, take, length-append}
use borrow.Author.Tests.{eqb-true}
use Rattle.base.specs.Numbers.{le_at, le_bytes}
use Rattle.base.specs.Bytes.{SameBytes, zeros}
use Rattle.base.specs.Rounding.{ceil}
use Rattle.base.specs.Rows.{rows, first_of}
use Rattle.base.proofs.Stands.{Stands, stands_in, stands_at}
use Rattle.base.proofs.SameBytes.{within}
use Rattle.base.proofs.Over.{zeros_length}
use Rattle.base.proofs.Rows.{part_at}
use Rattle.base.proofs.Numbers.{le_length, read_number}
use Rattle.base.proofs.Rounding.{ceil_under}
use Rattle.format.specs.Geometry.{file_sectors, bytes_at, directory_entries}
use Rattle.format.specs.Kdmv.{kdmv_fields, kdmv_magic, all_ones, footer_at, last_at, footer_directory}
use Rattle.format.specs.Header.{kdmv_header, directory_of, kdmv_header_of, header_of, start_of, directory_entries_of}
use Rattle.format.specs.Accepted.{FooterRules, KdmvRules}
use Rattle.format.specs.Stream.{kept_grains, kept_sectors}
use Rattle.format.specs.Tail.{footer_bytes}
use Rattle.format.specs.Close.{tail_of, closed_image}
use Rattle.format.specs.declared.Header.{Header}
use Rattle.format.proofs.BytesAt.{part_long, read_part, part_alike}
use Rattle.format.proofs.HeaderFooter.{kept_footer}
use Rattle.format.proofs.HeaderJudged.{kdmv_is}
use Rattle.format.proofs.HeaderKdmv.{kdmv_kept}
use Rattle.format.proofs.HeaderStart.{StartSizes}
use Rattle.format.proofs.Picked.{pick_then}
use Rattle.format.proofs.TailLengths.{one_more, tables_most, tail_length_lem}
use Rattle.format.proofs.SameHeader.{string, kdmv_same}
use Rattle.laws.specs.Closed.{closed_sectors, closed_directory, closed_header}
use Rattle.laws.proofs.ClosedStart.{Closing, kept_late, kept_here, kept_long, kept_same, tail_stands}
use Rattle.laws.proofs.ClosedTail.{footer_stands, last_stands}

-- ---- a footer's three parts, where it stands
abbrev footer_parts : List ℕ → ℕ → List (List ℕ)
footer_parts s directory = bytes_at s 0 56 ∷ le_bytes 8 directory ∷ bytes_at s 64 448 ∷ []

module _ (s : List ℕ) (long : 512 ≤ length s) {c : List ℕ} {at : ℕ} (directory : ℕ)
    (t : Stands c at (footer_bytes s directory)) where
  footer_part : (i n : ℕ) → i < 3 → length (first_of (footer_parts s directory) i) ≡ n
      → Stands c (at + n) (get_or (footer_parts s directory) i [])
  unfolding footer_bytes
  footer_part i n b e = stands_in t (stands_at n e (part_at (footer_parts s directory) i b))

  none_before : length (first_of (footer_parts s directory) 0) ≡ 0
  unfolding rows
  none_before = refl

  front_before : length (first_of (footer_parts s directory) 1) ≡ 56
  front_before = one_more (footer_parts s directory) 0 0 none_before ∙ omega (arith, part_long s 0 56 (omega arith))

  all_before : length (first_of (footer_parts s directory) 2) ≡ 64
  all_before = one_more (footer_parts s directory) 1 56 front_before ∙ omega (arith, le_length 8 directory)

  front_read : bytes_at c at 56 ≡ bytes_at s 0 56
  front_read =
      read_part 56 (part_long s 0 56 (omega arith)) (stands_at at (omega arith) (footer_part 0 0 (omega arith) none_before))

  directory_read : directory < 0x10000000000000000 → le_at c (at + 56) 8 ≡ directory
  directory_read b = read_number 8 directory (footer_part 1 56 (omega arith) front_before) b

  back_read : bytes_at c (at + 64) 448 ≡ bytes_at s 64 448
  back_read = read_part 448 (part_long s 64 448 (omega arith)) (footer_part 2 64 (omega arith) all_before)

-- ---- numbers
-- there are few tables, so that all sectors are small
entries_few : (c size : ℕ) → c ≤ 0x80000000 → 8 ≤ size → size ≤ 2048 → directory_entries c 512 size ≤ 0x100000
unfolding directory_entries
entries_few c size small low high =
    let a : 1 ≤ 512 * size = omega arith in
    let b : 4096 ≤ 512 * size = omega arith in
    omega (arith, ceil_under c (512 * size) a, mul-le-mul_left (ceil c (512 * size)) b)

pub entries_small : (h : Header) → StartSizes h → directory_entries_of h ≤ 0x100000
entries_small h z = rw z.table (entries_few h.capacity h.grain_size z.small z.low z.high)

-- ---- a closed image
module _ (s : List ℕ) (z : Closing s) where
  pub closed_length : length (closed_image s) ≡ 512 * closed_sectors s
  closed_length =
      length-append (take (512 * kept_sectors s (start_of s)) s) (tail_of s (start_of s))
      ∙ omega (
        arith,
        kept_long s z,
        tail_length_lem s (start_of s) (kept_sectors s (start_of s)) (kept_grains s (start_of s))
            z.started.long,
      )

  pub closed_sectors_lem : file_sectors (closed_image s) ≡ closed_sectors s
  closed_sectors_lem = omega (arith, closed_length)

  pub head_same : SameBytes (closed_image s) s 0 512
  head_same = within (closed_image s) s 0 _ 0 512 (kept_same s z) (omega arith) (omega (arith, kept_late s z, z.late))

  pub fields_same : kdmv_fields (closed_image s) ≡ kdmv_fields s
  fields_same = kdmv_same (closed_image s) s head_same

  directory_small : closed_directory s < 0xffffffff
  directory_small =
      let n = directory_entries_of (start_of s) in
      omega (
        arith,
        tables_most (kept_grains s (start_of s)) n,
        entries_small (start_of s) z.sizes,
        kept_here s z,
        z.few,
      )

  footer_at_lem : footer_at (closed_image s) ≡ 512 * (closed_directory s + (start_of s).directory_sectors + 1)
  footer_at_lem = omega (arith, closed_sectors_lem)

  last_at_lem : last_at (closed_image s) ≡ 512 * (closed_directory s + (start_of s).directory_sectors + 2)
  last_at_lem = omega (arith, closed_sectors_lem)

  footer_here : Stands (closed_image s) (footer_at (closed_image s)) (footer_bytes s (closed_directory s))
  footer_here = rw footer_at_lem (footer_stands s (start_of s) _ _ z.started.long (tail_stands s z))

  last_here : Stands (closed_image s) (last_at (closed_image s)) (zeros 512)
  last_here = rw last_at_lem (last_stands s (start_of s) _ _ z.started.long (tail_stands s z))

  pub directory_told : footer_directory (closed_image s) ≡ closed_directory s
  directory_told =
      directory_read s z.started.long (closed_directory s) footer_here (omega (arith, directory_small))

  footer_rules : FooterRules (closed_image s)
  footer_rules =
      let long = z.started.long in
      let room : 512 ≤ length (closed_image s) = omega (arith, closed_length, kept_late s z, z.late) in
      record {
        multiple = omega (arith, closed_length);
        long = omega (arith, closed_sectors_lem);
        front = front_read s long (closed_directory s) footer_here
            ∙ sym (part_alike (closed_image s) s 0 56 (omega arith) (omega arith)
            (within (closed_image s) s 0 512 0 56 head_same (omega arith) (omega arith)));
        back = back_read s long (closed_directory s) footer_here
            ∙ sym (part_alike (closed_image s) s 64 448 (omega arith) (omega arith)
            (within (closed_image s) s 0 512 64 448 head_same (omega arith) (omega arith)));
        last = read_part 512 (zeros_length 512) last_here;
        directory = λ e. omega (arith, directory_told, directory_small, e);
      }

  pub closed_rules : KdmvRules (closed_image s) (kdmv_fields (closed_image s))
  unfolding kdmv_fields
  closed_rules =
      kdmv_kept (closed_image s) (kdmv_fields (closed_image s)) refl (omega (arith, closed_length, kept_late s z, z.late))
      (string (closed_image s) s head_same 0 kdmv_magic (omega arith) ∙ z.started.magic)
      (rw fields_same z.started.kept)
      (λ t. kept_footer (closed_image s) footer_rules)

  pub kdmv_closed : kdmv_header_of (closed_image s) ≡ closed_header s
  unfolding directory_of
  kdmv_closed = rw (fields_same, pick_then _ _ _ z.at_end, directory_told)

  pub header_closed : header_of (closed_image s) ≡ closed_header s
  header_closed = kdmv_is (closed_image s) closed_rules ∙ kdmv_closed

  -- its grains are packed: a directory at the end needs markers, and markers need compression
  pub packed_closed : (closed_header s).packed ≡ true
  unfolding kdmv_header
  packed_closed =
      let q : (kdmv_fields (closed_image s)).directory ≡ all_ones = rw fields_same (eqb-true _ _ z.at_end) in
      rw fields_same at (closed_rules.markers (closed_rules.at_end q).0)

  -- closing it again begins with the same header
  pub start_closed : start_of (closed_image s) ≡ start_of s
  start_closed = rw fields_same
