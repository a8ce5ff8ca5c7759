-- The header of a layout of either kind reads back as written, and keeps every header rule.
use Prim.Native.Nat.{ℕ, ◌+◌, ◌*◌, ◌≤◌, ◌<◌}
use mathlib.Core.Path.{◌≡◌, refl, sym, ◌∙◌}
use mathlib.Core.Bool.{Bool, true, false, false≢true}
use mathlib.Core.List.{List, []}
use native.Mathlib.Omega.{arith}
use native.Mathlib.Nat.{zero-add, add_assoc}
use lib.Dec.{lit<, lit≤}
use lib.ListN.{length, get_or}
use Rattle.base.specs.Pick.{pick}
use Rattle.base.specs.Numbers.{le_at, le_bytes}
use Rattle.base.specs.Strings.{same_at}
use Rattle.base.specs.Bytes.{zeros}
use Rattle.base.specs.Rows.{rows, first_of}
use Rattle.base.proofs.Stands.{Stands, stands_in, read_bytes}
use Rattle.base.proofs.Numbers.{read_number}
use Rattle.base.proofs.Strings.{read_same}
use Rattle.base.proofs.Over.{zeros_length, zeros_at}
use Rattle.base.proofs.Rows.{part_at}
use Rattle.format.specs.Geometry.{grains, directory_sectors}
use Rattle.format.specs.Kdmv.{newline_bytes, kdmv_fields}
use Rattle.format.specs.Cowd.{cowd_fields}
use Rattle.format.specs.Header.{kdmv_header, cowd_header, directory_of, kdmv_header_of, cowd_header_of, header_of}
use Rattle.format.specs.Accepted.{KdmvRules, CowdRules}
use Rattle.format.specs.Grains.{Map}
use Rattle.format.specs.Layout.{head_sectors, sectors_per_table, table_count, sector_of, sectors_laid, kdmv_parts, cowd_parts}
use Rattle.format.specs.Layout.{header_bytes, layout_as}
use Rattle.format.specs.declared.Kind.{Kind}
use Rattle.format.specs.declared.Kind.TheVariants.{Kdmv, Cowd}
use Rattle.format.specs.declared.KdmvFields.{KdmvFields}
use Rattle.format.specs.declared.CowdFields.{CowdFields}
use Rattle.format.specs.declared.Header.{Header}
use Rattle.format.proofs.HeaderJudged.{kdmv_is, cowd_is}
use Rattle.laws.proofs.LayoutNumbers.{Sizes, count_small, sector_small}
use Rattle.format.proofs.Lengths.{header_length}
use Rattle.laws.proofs.LayoutParts.{header_stands}

-- ---- what is written
abbrev laid_fields : ℕ → ℕ → KdmvFields
laid_fields c size =
    record {
      version = 2;
      flags = 5;
      capacity = c;
      grain_size = size;
      descriptor = 0;
      descriptor_sectors = 0;
      entries_per_table = 512;
      redundant = 0;
      directory = 1;
      dirty = 0;
      newline = true;
      compression = 0;
    }

abbrev cowd_laid : ℕ → ℕ → CowdFields
cowd_laid c size =
    record {
      version = 1;
      capacity = c;
      grain_size = size;
      directory = 4;
      directory_entries = table_count Cowd c size;
      dirty = 0;
    }

-- and the header that it tells
abbrev is_cowd : Kind → Bool
is_cowd Kdmv = false
is_cowd Cowd = true

-- whether entry 1 means zeros
abbrev pub one_is_zero : Kind → Bool
one_is_zero Kdmv = true
one_is_zero Cowd = false

abbrev pub laid_header : Kind → ℕ → ℕ → Header
laid_header kind c size =
    record {
      cowd = is_cowd kind;
      capacity = c;
      grain_size = size;
      header_sectors = head_sectors kind;
      descriptor = 0;
      descriptor_sectors = 0;
      directory = head_sectors kind;
      directory_sectors = directory_sectors (table_count kind c size);
      redundant = 0;
      entries_per_table = 128 * sectors_per_table kind;
      table_sectors = sectors_per_table kind;
      one_is_zero = one_is_zero kind;
      packed = false;
      footer = false;
      dirty = 0;
    }

-- four bytes of a run of zeros
zero_read : {s : List ℕ} {at : ℕ} (n i : ℕ) → Stands s at (zeros n) → i + 4 ≤ n → le_at s (at + i) 4 ≡ 0
unfolding le_bytes zeros
zero_read n i h b =
    read_number 4 0
    (record {
      inside = omega (arith, h.inside, zeros_length n);
      same = λ j l.
          rw add_assoc (h.same (i + j) (omega (arith, zeros_length n))) ∙ zeros_at n (i + j) ∙ sym (zeros_at 4 j);
    })
    (lit< tt)

module _ {c size : ℕ} (z : Sizes c size) where
  -- ---- an image that begins with the header
  module _ (s : List ℕ) (n : ℕ) (h : Stands s 0 (header_bytes Kdmv c size n)) where
    field : (i : ℕ) → i < 15 → Stands s (length (first_of (kdmv_parts c size) i)) (get_or (kdmv_parts c size) i [])
    unfolding header_bytes
    field i b = rw zero-add at (stands_in h (part_at (kdmv_parts c size) i b))

    fields_read : kdmv_fields s ≡ laid_fields c size
    unfolding kdmv_fields rows le_bytes zeros
    fields_read =
        let version : le_at s 4 4 ≡ 2 = read_number 4 2 (field 1 (lit< tt)) (lit< tt) in
        let flags : le_at s 8 4 ≡ 5 = read_number 4 5 (field 2 (lit< tt)) (lit< tt) in
        let capacity : le_at s 12 8 ≡ c = read_number 8 c (field 3 (lit< tt)) (omega (arith, z.capacity.high)) in
        let grain_size : le_at s 20 8 ≡ size = read_number 8 size (field 4 (lit< tt)) (omega (arith, z.grain_size.high)) in
        let descriptor : le_at s 28 8 ≡ 0 = read_number 8 0 (field 5 (lit< tt)) (lit< tt) in
        let sectors : le_at s 36 8 ≡ 0 = read_number 8 0 (field 6 (lit< tt)) (lit< tt) in
        let per_table : le_at s 44 4 ≡ 512 = read_number 4 512 (field 7 (lit< tt)) (lit< tt) in
        let redundant : le_at s 48 8 ≡ 0 = read_number 8 0 (field 8 (lit< tt)) (lit< tt) in
        let directory : le_at s 56 8 ≡ 1 = read_number 8 1 (field 9 (lit< tt)) (lit< tt) in
        let dirty : le_at s 72 1 ≡ 0 = read_number 1 0 (field 11 (lit< tt)) (lit< tt) in
        let newline : same_at s 73 newline_bytes ≡ true = read_same newline_bytes (field 12 (lit< tt)) in
        let compression : le_at s 77 2 ≡ 0 = read_number 2 0 (field 13 (lit< tt)) (lit< tt) in
        rw (
          version,
          flags,
          capacity,
          grain_size,
          descriptor,
          sectors,
          per_table,
          redundant,
          directory,
          dirty,
          newline,
          compression,
        )

    rules_kept : KdmvRules s (laid_fields c size)
    unfolding rows le_bytes zeros
    rules_kept =
        record {
          long = omega (arith, h.inside, header_length Kdmv c size n);
          magic = read_bytes (field 0 (lit< tt));
          version = (lit≤ tt, lit≤ tt);
          newline = λ t. read_bytes (field 12 (lit< tt));
          flags = refl;
          compression = refl;
          markers = λ t. absurd (false≢true t);
          use_redundant = λ t. absurd (false≢true t);
          zeroed_entries = λ t q. absurd (omega (arith, q));
          capacity = z.capacity;
          grain_size = z.grain_size;
          entries = refl;
          at_end = λ q. absurd (omega (arith, q));
        }

    -- what such an image's header tells
    pub front_laid : header_of s ≡ laid_header Kdmv c size
    unfolding kdmv_header directory_of pick table_count
    front_laid = kdmv_is s (rw fields_read rules_kept) ∙ rw fields_read

  -- ---- the same of COWD
  module _ (s : List ℕ) (n : ℕ) (h : Stands s 0 (header_bytes Cowd c size n)) where
    cowd_field : (i : ℕ) → i < 9 → Stands s (length (first_of (cowd_parts c size n) i)) (get_or (cowd_parts c size n) i [])
    unfolding header_bytes
    cowd_field i b = rw zero-add at (stands_in h (part_at (cowd_parts c size n) i b))

    cowd_read : cowd_fields s ≡ cowd_laid c size
    unfolding cowd_fields rows le_bytes zeros
    cowd_read =
        let version : le_at s 4 4 ≡ 1 = read_number 4 1 (cowd_field 1 (lit< tt)) (lit< tt) in
        let capacity : le_at s 12 4 ≡ c = read_number 4 c (cowd_field 3 (lit< tt)) (omega (arith, z.capacity.high)) in
        let grain_size : le_at s 16 4 ≡ size = read_number 4 size (cowd_field 4 (lit< tt)) (omega (arith, z.grain_size.high)) in
        let directory : le_at s 20 4 ≡ 4 = read_number 4 4 (cowd_field 5 (lit< tt)) (lit< tt) in
        let entries : le_at s 24 4 ≡ table_count Cowd c size = read_number 4 _ (cowd_field 6 (lit< tt)) (count_small Cowd z) in
        let dirty : le_at s 1648 4 ≡ 0 = zero_read 2016 1616 (cowd_field 8 (lit< tt)) (lit≤ tt) in
        rw (version, capacity, grain_size, directory, entries, dirty)

    cowd_kept : CowdRules s (cowd_laid c size)
    unfolding rows le_bytes zeros table_count
    cowd_kept =
        record {
          long = omega (arith, h.inside, header_length Cowd c size n);
          magic = read_bytes (cowd_field 0 (lit< tt));
          version = refl;
          capacity = z.capacity;
          grain_size = record { low = omega (arith, z.grain_size.low); high = z.grain_size.high; power = z.grain_size.power };
          stored_count = omega arith;
        }

  module _ (m : Map) where
    fields : kdmv_fields (layout_as Kdmv c size m) ≡ laid_fields c size
    fields = fields_read (layout_as Kdmv c size m) _ (header_stands Kdmv z m)

    pub layout_rules : KdmvRules (layout_as Kdmv c size m) (kdmv_fields (layout_as Kdmv c size m))
    layout_rules = rw fields (rules_kept (layout_as Kdmv c size m) _ (header_stands Kdmv z m))

    pub kdmv_laid : kdmv_header_of (layout_as Kdmv c size m) ≡ laid_header Kdmv c size
    unfolding kdmv_header directory_of pick table_count
    kdmv_laid = rw fields

    cowd_fields_lem : cowd_fields (layout_as Cowd c size m) ≡ cowd_laid c size
    cowd_fields_lem = cowd_read (layout_as Cowd c size m) _ (header_stands Cowd z m)

    pub cowd_rules_lem : CowdRules (layout_as Cowd c size m) (cowd_fields (layout_as Cowd c size m))
    cowd_rules_lem = rw cowd_fields_lem (cowd_kept (layout_as Cowd c size m) _ (header_stands Cowd z m))

    pub cowd_laid_lem : cowd_header_of (layout_as Cowd c size m) ≡ laid_header Cowd c size
    unfolding cowd_header
    cowd_laid_lem = rw cowd_fields_lem

    -- at offset 28 the file's length in sectors
    pub sectors_read : le_at (layout_as Cowd c size m) 28 4 ≡ sectors_laid Cowd c size m
    unfolding rows le_bytes zeros sectors_laid sector_of
    sectors_read =
        read_number 4 _ (cowd_field (layout_as Cowd c size m) _ (header_stands Cowd z m) 7 (lit< tt))
        (sector_small Cowd z m (grains c size) (omega arith))

pub header_laid : (kind : Kind) {c size : ℕ} → Sizes c size → (m : Map)
    → header_of (layout_as kind c size m) ≡ laid_header kind c size
header_laid Kdmv z m = kdmv_is _ (layout_rules z m) ∙ kdmv_laid z m
header_laid Cowd z m = cowd_is _ (cowd_rules_lem z m) ∙ cowd_laid_lem z m
