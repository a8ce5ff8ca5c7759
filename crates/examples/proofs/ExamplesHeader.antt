-- Headers on both sides of the edge of each rule: refusals 1 to 6 and 43, and what an image that is not refused tells.
use Prim.Native.Nat.{ℕ}
use mathlib.Core.List.{List, [], ◌∷◌, map}
use mathlib.Core.Path.{refl}
use mathlib.Core.Bool.{Bool, true, false}
use lib.ListN.{take, replicate}
use Rattle.base.specs.Pick.{pick}
use Rattle.base.specs.Rounding.{power_up_to}
use Rattle.base.specs.Numbers.{le_at, le_bytes}
use Rattle.base.specs.Strings.{same_at}
use Rattle.base.specs.Bytes.{over, zeros}
use Rattle.format.specs.Geometry.{directory_entries, directory_sectors}
use Rattle.format.specs.Kdmv.{kdmv_fields, kdmv_fault}
use Rattle.format.specs.Cowd.{cowd_fields, cowd_fault}
use Rattle.format.specs.Header.{kdmv_header, cowd_header, directory_of, unless_fault, with_footer, judge_kdmv, kind_gone}
use Rattle.format.specs.Header.{judge_cowd, judge_of, judge}
use Rattle.format.specs.declared.Taken.TheVariants.{Either}
use Rattle.format.specs.declared.KdmvFields.{KdmvFields}
use Rattle.format.specs.declared.Refusal.TheVariants.{TooShort, Magic, Version, Newline, Flags, Sizes, KindGone}
use Rattle.examples.specs.Examples.{Example, example, Hold}
use Rattle.examples.specs.Images.{joined, with, kdmv_sector, cowd_sectors}
use Rattle.std.specs.Prelude.{Result, Ok, Err}
use Rattle.format.specs.declared.Header.{Header}
use Rattle.format.specs.declared.Refusal.{Refusal}

-- ---- 1 and 2, by the first bytes and the length
abbrev kinds : List (Example (Result Header Refusal))
kinds =
    example (judge []) (Err TooShort)
    ∷ example (judge (zeros 3)) (Err TooShort)
    ∷ example (judge (zeros 4)) (Err Magic)
    -- each byte of a known magic counts
    ∷ example (judge (0x4b ∷ 0x44 ∷ 0x4d ∷ 0x56 ∷ [])) (Err TooShort)
    ∷ example (judge (0x43 ∷ 0x4f ∷ 0x57 ∷ 0x44 ∷ [])) (Err TooShort)
    ∷ example (judge (0x4b ∷ 0x44 ∷ 0x4d ∷ 0x57 ∷ [])) (Err Magic)
    ∷ example (judge (0x43 ∷ 0x4f ∷ 0x57 ∷ 0x45 ∷ [])) (Err Magic)
    -- a sector of KDMV, four of COWD
    ∷ example (judge (take 511 (kdmv_sector 0 8 1))) (Err TooShort)
    ∷ example (judge (kdmv_sector 0 8 1)) (Err Sizes)
    ∷ example (judge (take 2047 (cowd_sectors 0 1 4 1))) (Err TooShort)
    -- COWD is 43, before 3 and 6; the moves go on to these
    ∷ example (judge (cowd_sectors 0 1 4 1)) (Err KindGone)
    ∷ example (judge (with 4 4 2 (cowd_sectors 1 1 4 1))) (Err KindGone)
    ∷ example (judge_of Either (take 2047 (cowd_sectors 0 1 4 1))) (Err TooShort)
    ∷ example (judge_of Either (cowd_sectors 0 1 4 1)) (Err Sizes)
    ∷ example (judge_of Either (with 4 4 2 (cowd_sectors 1 1 4 1))) (Err Version)
    ∷ []

-- ---- 3 to 6 of KDMV
-- version, flags, capacity, grain size, entries per table, redundant directory, directory, newline bytes right, compression
abbrev fields : ℕ → ℕ → ℕ → ℕ → ℕ → ℕ → ℕ → Bool → ℕ → KdmvFields
fields version flags capacity grain_size entries redundant directory newline compression =
    record {
      version = version;
      flags = flags;
      capacity = capacity;
      grain_size = grain_size;
      descriptor = 0;
      descriptor_sectors = 0;
      entries_per_table = entries;
      redundant = redundant;
      directory = directory;
      dirty = 1;
      newline = newline;
      compression = compression;
    }

-- a header whose flags, compression, redundant directory and directory are these
abbrev flagged : ℕ → ℕ → ℕ → ℕ → Result (Unit {0}) Refusal
flagged flags compression redundant directory = kdmv_fault (fields 2 flags 16 8 512 redundant directory true compression)

abbrev kdmv_rules : List (Example (List (Result (Unit {0}) Refusal)))
kdmv_rules =
    -- version is 1, 2 or 3
    example (map (λ v. kdmv_fault (fields v 0 16 8 512 0 1 true 0)) (0 ∷ 1 ∷ 2 ∷ 3 ∷ 4 ∷ []))
    (Err Version ∷ (Ok tt) ∷ (Ok tt) ∷ (Ok tt) ∷ Err Version ∷ [])
    -- newline bytes count where 0x1 is set
    ∷ example (map (λ f. kdmv_fault (fields 2 f 16 8 512 0 1 false 0)) (0 ∷ 1 ∷ 4 ∷ 5 ∷ []))
    ((Ok tt) ∷ Err Newline ∷ (Ok tt) ∷ Err Newline ∷ [])
    -- no bit but the five
    ∷ example (map (λ f. flagged f 0 0 1) (0 ∷ 1 ∷ 4 ∷ 5 ∷ [])) ((Ok tt) ∷ (Ok tt) ∷ (Ok tt) ∷ (Ok tt) ∷ [])
    ∷ example (map (λ f. flagged f 0 0 1) (8 ∷ 0x8000 ∷ 0x40000 ∷ 0x80000000 ∷ []))
    (Err Flags ∷ Err Flags ∷ Err Flags ∷ Err Flags ∷ [])
    ∷ example (map (λ f. flagged f 1 2 1) (0x30007 ∷ 0x3000f ∷ [])) ((Ok tt) ∷ Err Flags ∷ [])
    -- compression is 1 where 0x10000 is set, else 0
    ∷ example (map (λ c. flagged 0x10000 c 0 1) (0 ∷ 1 ∷ 2 ∷ 3 ∷ [])) (Err Flags ∷ (Ok tt) ∷ Err Flags ∷ Err Flags ∷ [])
    ∷ example (map (λ c. flagged 0 c 0 1) (0 ∷ 1 ∷ 2 ∷ [])) ((Ok tt) ∷ Err Flags ∷ Err Flags ∷ [])
    -- 0x20000 needs 0x10000
    ∷ example (flagged 0x20000 0 0 1 ∷ flagged 0x30000 1 0 1 ∷ []) (Err Flags ∷ (Ok tt) ∷ [])
    -- 0x2 needs a redundant directory
    ∷ example (map (λ r. flagged 2 0 r 1) (0 ∷ 1 ∷ [])) (Err Flags ∷ (Ok tt) ∷ [])
    -- version 1 has no 0x4
    ∷ example (map (λ v. kdmv_fault (fields v 4 16 8 512 0 1 true 0)) (1 ∷ 2 ∷ 3 ∷ [])) (Err Flags ∷ (Ok tt) ∷ (Ok tt) ∷ [])
    -- a directory at the end needs 0x20000
    ∷ example (map (λ d. flagged 0x10000 1 0 d) (0xffffffffffffffff ∷ 0xfffffffffffffffe ∷ [])) (Err Flags ∷ (Ok tt) ∷ [])
    ∷ example (flagged 0x30000 1 0 0xffffffffffffffff ∷ []) ((Ok tt) ∷ [])
    -- capacity 1 to 2^31
    ∷ example (map (λ c. kdmv_fault (fields 1 0 c 8 512 0 1 true 0)) (0 ∷ 1 ∷ 0x80000000 ∷ 0x80000001 ∷ []))
    (Err Sizes ∷ (Ok tt) ∷ (Ok tt) ∷ Err Sizes ∷ [])
    -- grain size a power of two, 8 to 2,048
    ∷ example (map (λ g. kdmv_fault (fields 1 0 16 g 512 0 1 true 0)) (0 ∷ 4 ∷ 7 ∷ 8 ∷ 9 ∷ 12 ∷ []))
    (Err Sizes ∷ Err Sizes ∷ Err Sizes ∷ (Ok tt) ∷ Err Sizes ∷ Err Sizes ∷ [])
    ∷ example (map (λ g. kdmv_fault (fields 1 0 16 g 512 0 1 true 0)) (16 ∷ 1024 ∷ 2048 ∷ 2049 ∷ 4096 ∷ []))
    ((Ok tt) ∷ (Ok tt) ∷ (Ok tt) ∷ Err Sizes ∷ Err Sizes ∷ [])
    -- entries per table 512
    ∷ example (map (λ n. kdmv_fault (fields 1 0 16 8 n 0 1 true 0)) (511 ∷ 512 ∷ 513 ∷ []))
    (Err Sizes ∷ (Ok tt) ∷ Err Sizes ∷ [])
    -- the order
    ∷ example (kdmv_fault (fields 0 9 0 8 512 0 1 false 0) ∷ kdmv_fault (fields 1 9 0 8 512 0 1 false 0) ∷ [])
    (Err Version ∷ Err Newline ∷ [])
    ∷ example (kdmv_fault (fields 1 9 0 8 512 0 1 true 0) ∷ []) (Err Flags ∷ [])
    ∷ []

-- ---- 3 and 6 of COWD
-- version, capacity, grain size, stored count
abbrev cowd_rule : ℕ → ℕ → ℕ → ℕ → Result (Unit {0}) Refusal
cowd_rule version capacity grain_size stored =
    cowd_fault
    (record {
      version = version;
      capacity = capacity;
      grain_size = grain_size;
      directory = 4;
      directory_entries = stored;
      dirty = 1;
    })

abbrev cowd_rules : List (Example (List (Result (Unit {0}) Refusal)))
cowd_rules =
    -- version is 1
    example (map (λ v. cowd_rule v 1 1 1) (0 ∷ 1 ∷ 2 ∷ [])) (Err Version ∷ (Ok tt) ∷ Err Version ∷ [])
    -- capacity 1 to 2^31
    ∷ example (map (λ c. cowd_rule 1 c 2048 257) (0 ∷ 1 ∷ 0x80000000 ∷ 0x80000001 ∷ []))
    (Err Sizes ∷ (Ok tt) ∷ (Ok tt) ∷ Err Sizes ∷ [])
    -- grain size a power of two, 1 to 2,048
    ∷ example (map (λ g. cowd_rule 1 1 g 1) (0 ∷ 1 ∷ 2 ∷ 3 ∷ 4 ∷ [])) (Err Sizes ∷ (Ok tt) ∷ (Ok tt) ∷ Err Sizes ∷ (Ok tt) ∷ [])
    ∷ example (map (λ g. cowd_rule 1 1 g 1) (2048 ∷ 2049 ∷ 4096 ∷ [])) ((Ok tt) ∷ Err Sizes ∷ Err Sizes ∷ [])
    -- the stored count at least n, which is 1 for 4,096 grains and 2 for 4,097
    ∷ example (map (λ n. cowd_rule 1 4096 1 n) (0 ∷ 1 ∷ [])) (Err Sizes ∷ (Ok tt) ∷ [])
    ∷ example (map (λ n. cowd_rule 1 4097 1 n) (1 ∷ 2 ∷ 3 ∷ [])) (Err Sizes ∷ (Ok tt) ∷ (Ok tt) ∷ [])
    -- the order
    ∷ example (cowd_rule 0 0 1 1 ∷ []) (Err Version ∷ [])
    ∷ []

-- the newline bytes, each of which counts
abbrev newlines : List (Example Bool)
newlines =
    example (kdmv_fields (kdmv_sector 16 8 1)).newline true
    ∷ example (kdmv_fields (with 73 1 0x0b (kdmv_sector 16 8 1))).newline false
    ∷ example (kdmv_fields (with 74 1 0x1f (kdmv_sector 16 8 1))).newline false
    ∷ example (kdmv_fields (with 75 1 0x0e (kdmv_sector 16 8 1))).newline false
    ∷ example (kdmv_fields (with 76 1 0x0b (kdmv_sector 16 8 1))).newline false
    ∷ []

-- ---- what is told. A field read a byte too short or too long has another number here
abbrev kdmv_full : List ℕ
kdmv_full =
    joined
    ((0x4b ∷ 0x44 ∷ 0x4d ∷ 0x56 ∷ [])
    ∷ le_bytes 4 3
    ∷ le_bytes 4 0x10007
    ∷ le_bytes 8 0x7fffffff
    ∷ le_bytes 8 0x80
    ∷ le_bytes 8 0x1112131415161718
    ∷ le_bytes 8 0x2122232425262728
    ∷ le_bytes 4 512
    ∷ le_bytes 8 0x3132333435363738
    ∷ le_bytes 8 0x4142434445464748
    ∷ replicate 8 0x55
    ∷ le_bytes 1 0xf1
    ∷ (0x0a ∷ 0x20 ∷ 0x0d ∷ 0x0a ∷ 0x01 ∷ 0x00 ∷ [])
    ∷ replicate 433 0x66
    ∷ [])

abbrev cowd_full : List ℕ
cowd_full =
    joined
    ((0x43 ∷ 0x4f ∷ 0x57 ∷ 0x44 ∷ [])
    ∷ le_bytes 4 1
    ∷ replicate 4 0x77
    ∷ le_bytes 4 0x80000000
    ∷ le_bytes 4 0x800
    ∷ le_bytes 4 0x51525354
    ∷ le_bytes 4 0x61626364
    ∷ replicate 1620 0x88
    ∷ le_bytes 4 0x71727374
    ∷ replicate 396 0x88
    ∷ [])

abbrev told : List (Example (Result Header Refusal))
told =
    -- n is 2^31 / 2^16, and the directory takes 256 sectors
    example (judge kdmv_full)
    (Ok
    (record {
      cowd = false;
      capacity = 0x7fffffff;
      grain_size = 0x80;
      header_sectors = 1;
      descriptor = 0x1112131415161718;
      descriptor_sectors = 0x2122232425262728;
      directory = 0x4142434445464748;
      directory_sectors = 256;
      redundant = 0x3132333435363738;
      entries_per_table = 512;
      table_sectors = 4;
      one_is_zero = true;
      packed = true;
      footer = false;
      dirty = 0xf1;
    }))
    -- the directory takes the sectors of its stored count, 0x61626364 / 128 rounded up
    ∷ example (judge_of Either cowd_full)
    (Ok
    (record {
      cowd = true;
      capacity = 0x80000000;
      grain_size = 0x800;
      header_sectors = 4;
      descriptor = 0;
      descriptor_sectors = 0;
      directory = 0x51525354;
      directory_sectors = 12764359;
      redundant = 0;
      entries_per_table = 4096;
      table_sectors = 32;
      one_is_zero = false;
      packed = false;
      footer = false;
      dirty = 0x71727374;
    }))
    ∷ []

pub kinds_judged : Hold kinds
unfolding pick power_up_to le_at le_bytes same_at over zeros kdmv_fields kdmv_fault cowd_fields cowd_fault unless_fault judge_kdmv kind_gone judge_cowd judge_of
kinds_judged = refl

pub rules_judged : Hold kdmv_rules
unfolding pick power_up_to kdmv_fault
rules_judged = refl

pub cowd_rules_judged : Hold cowd_rules
unfolding pick power_up_to directory_entries cowd_fault
cowd_rules_judged = refl

pub newline_read : Hold newlines
unfolding le_at same_at over le_bytes zeros kdmv_fields
newline_read = refl

pub headers_told : Hold told
unfolding pick power_up_to le_at le_bytes same_at over zeros directory_entries directory_sectors kdmv_fields kdmv_fault cowd_fields cowd_fault kdmv_header cowd_header directory_of unless_fault with_footer judge_kdmv kind_gone judge_cowd judge_of
headers_told = refl
