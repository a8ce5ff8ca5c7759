-- Blocks of a stream (request A12): what makes one, and that one of the kept part is the same in the closed image.
use Prim.Native.Nat.{ℕ, ◌+◌, ◌*◌, ◌/◌, ◌≤◌, ◌<◌}
use mathlib.Core.Path.{◌≡◌, sym, ◌∙◌}
use mathlib.Core.List.{List, [], ◌∷◌}
use mathlib.Core.Bool.{true, false}
use native.Mathlib.Omega.{arith}
use lib.Dec.{leb, eqb}
use lib.ListN.{length, get_or}
use borrow.Author.Tests.{le-ltb, lt-leb, eq-eqb, ne_eqb, eqb-true, eqb-false}
use Rattle.base.specs.Numbers.{le_bytes}
use Rattle.base.specs.Bytes.{zeros}
use Rattle.base.specs.Rows.{rows, first_of}
use Rattle.base.proofs.Steps.{cond_all}
use Rattle.base.proofs.Stands.{Stands, stands_in, stands_at}
use Rattle.base.proofs.SameBytes.{within, number_same}
use Rattle.base.proofs.Rows.{part_at}
use Rattle.base.proofs.Numbers.{le_length, read_number}
use Rattle.format.specs.Geometry.{file_sectors}
use Rattle.format.specs.Header.{start_of}
use Rattle.format.specs.Entries.{marker_first, marker_size, grain_sectors}
use Rattle.format.specs.Areas.{area, ends_past}
use Rattle.format.specs.Stream.{if_whole, out_of_order, stream_grain, marker_type, stream_other, block_at, kept_sectors}
use Rattle.format.specs.Tail.{marker_bytes}
use Rattle.format.specs.Close.{closed_image}
use Rattle.format.specs.declared.Header.{Header}
use Rattle.format.specs.declared.closing.Block.{Block}
use Rattle.format.specs.declared.closing.Block.TheVariants.{Stop, Other, Grain}
use Rattle.format.proofs.Entries.{sectors_same}
use Rattle.format.proofs.Picked.{pick_then, pick_else}
use Rattle.format.proofs.TailLengths.{one_more}
use Rattle.laws.proofs.ClosedStart.{Closing, kept_same}
use Rattle.laws.proofs.ClosedHeader.{closed_sectors_lem}
use Rattle.laws.proofs.ClosedGrains.{size_same, first_same}

-- ---- what makes a block
module _ (s : List ℕ) (h : Header) (p next : ℕ) (here : p < file_sectors s) where
  whole_is : (k : ℕ) (b : Block) → p + k ≤ file_sectors s → if_whole s p k b ≡ b
  unfolding if_whole
  whole_is k b e = pick_else _ _ _ (le-ltb (file_sectors s) (p + k) e)

  other_is : marker_size s p ≡ 0 → block_at s h p next ≡ stream_other s h p
  unfolding block_at
  other_is z = pick_else _ _ _ (lt-leb (file_sectors s) p here) ∙ pick_then _ _ _ (eq-eqb (marker_size s p) 0 z)

  pub table_block : marker_size s p ≡ 0 → marker_type s p ≡ 1 → p + 5 ≤ file_sectors s → block_at s h p next ≡ Other 5
  table_block z t e = other_is z ∙ pick_then _ _ _ (eq-eqb (marker_type s p) 1 t) ∙ whole_is 5 (Other 5) e

  pub directory_block : marker_size s p ≡ 0 → marker_type s p ≡ 2 → p + (1 + h.directory_sectors) ≤ file_sectors s
      → block_at s h p next ≡ Other (1 + h.directory_sectors)
  directory_block z t e =
      other_is z
      ∙ pick_else _ _ _ (ne_eqb (marker_type s p) 1 (omega arith))
      ∙ pick_then _ _ _ (eq-eqb (marker_type s p) 2 t)
      ∙ whole_is (1 + h.directory_sectors) _ e

  pub footer_block : marker_size s p ≡ 0 → marker_type s p ≡ 3 → block_at s h p next ≡ Stop
  footer_block z t =
      other_is z
      ∙ pick_else _ _ _ (ne_eqb (marker_type s p) 1 (omega arith))
      ∙ pick_else _ _ _ (ne_eqb (marker_type s p) 2 (omega arith))

  pub grain_block : (marker_size s p ≡ 0 → ⊥) → out_of_order h next (marker_first s p) ≡ false
      → p + grain_sectors s true h.grain_size p ≤ file_sectors s
      → block_at s h p next ≡ Grain (marker_first s p / h.grain_size) (grain_sectors s true h.grain_size p)
  unfolding block_at
  grain_block n o e =
      pick_else _ _ _ (lt-leb (file_sectors s) p here)
      ∙ pick_else _ _ _ (ne_eqb (marker_size s p) 0 n)
      ∙ whole_is (grain_sectors s true h.grain_size p) _ e
      ∙ pick_else _ _ _ o

-- what holds of a stop, of other blocks and of grains
block_all : (P : Block → Type 0) (s : List ℕ) (h : Header) (p next : ℕ) → P Stop
    → (eqb (marker_size s p) 0 ≡ true → P (stream_other s h p))
    → (eqb (marker_size s p) 0 ≡ false → P (stream_grain s h p next))
    → P (block_at s h p next)
unfolding block_at
block_all P s h p next stop other grain =
    cond_all P (leb (file_sectors s) p) Stop _ (λ t. stop) (λ n. cond_all P (eqb (marker_size s p) 0) _ _ other grain)

-- ---- a marker that was written
module _ {s : List ℕ} (p first type : ℕ) (t : Stands s (512 * p) (marker_bytes first type)) where
  abbrev parts : List (List ℕ)
  parts = le_bytes 8 first ∷ le_bytes 4 0 ∷ le_bytes 4 type ∷ zeros 496 ∷ []

  before_1 : length (first_of parts 1) ≡ 8
  unfolding rows
  before_1 = le_length 8 first

  before_2 : length (first_of parts 2) ≡ 12
  before_2 = one_more parts 1 8 before_1 ∙ omega (arith, le_length 4 0)

  part_stands : (i n : ℕ) → i < 4 → length (first_of parts i) ≡ n → Stands s (512 * p + n) (get_or parts i [])
  unfolding marker_bytes
  part_stands i n b e = stands_in t (stands_at n e (part_at parts i b))

  pub size_read : marker_size s p ≡ 0
  size_read = read_number 4 0 (part_stands 1 8 (omega arith) before_1) (omega arith)

  pub type_read : type < 0x100000000 → marker_type s p ≡ type
  type_read b = read_number 4 type (part_stands 2 12 (omega arith) before_2) b

-- ---- the kept part
-- how many sectors a block takes, and that it lies in the kept part
unfoldable pub taken : Block → ℕ
taken Stop = 0
taken (Other k) = k
taken (Grain g k) = k

abbrev pub Inner : ℕ → ℕ → Block → Type 0
Inner p last b = (1 ≤ taken b) × (p + taken b ≤ last)

module _ (s : List ℕ) (z : Closing s) (p next : ℕ) where
  -- a block of the start that lies in the kept part is the closed image's too
  abbrev Same : Block → Type 0
  Same b = Inner p (kept_sectors s (start_of s)) b → block_at (closed_image s) (start_of s) p next ≡ b

  none_same : Same Stop
  unfolding taken
  none_same i = absurd (omega (arith, i.0))

  whole_same : (k : ℕ) (b : Block) → Same b → Same (if_whole s p k b)
  unfolding if_whole
  whole_same k b f = cond_all Same (ends_past (file_sectors s) (area p k)) Stop b (λ t. none_same) (λ n. f)

  inside : (k : ℕ) → p + k ≤ kept_sectors s (start_of s) → p + k ≤ file_sectors (closed_image s)
  inside k e = omega (arith, closed_sectors_lem s z)

  module _ (low : p < kept_sectors s (start_of s)) where
    here : p < file_sectors (closed_image s)
    here = omega (arith, closed_sectors_lem s z)

    type_same : marker_type (closed_image s) p ≡ marker_type s p
    type_same =
        number_same (closed_image s) s _ 4
        (within (closed_image s) s 0 _ (512 * p + 12) 4 (kept_same s z) (omega arith) (omega arith))

    takes_same : grain_sectors (closed_image s) true (start_of s).grain_size p ≡ grain_sectors s true (start_of s).grain_size p
    takes_same = sectors_same (closed_image s) s true _ p (λ t. size_same s z p low)

  other_same : eqb (marker_size s p) 0 ≡ true → Same (stream_other s (start_of s) p)
  unfolding taken
  other_same q =
      let none = eqb-true (marker_size s p) 0 q in
      cond_all Same (eqb (marker_type s p) 1) _ _
      (λ t. whole_same 5 (Other 5) (λ i.
      let low : p < kept_sectors s (start_of s) = omega (arith, i.0, i.1) in
      table_block (closed_image s) (start_of s) p next (here low) (size_same s z p low ∙ none)
      (type_same low ∙ eqb-true _ _ t) (inside 5 i.1)))
      (λ n. cond_all Same (eqb (marker_type s p) 2) _ _
      (λ t. whole_same (1 + (start_of s).directory_sectors) _ (λ i.
      let low : p < kept_sectors s (start_of s) = omega (arith, i.0, i.1) in
      directory_block (closed_image s) (start_of s) p next (here low) (size_same s z p low ∙ none)
      (type_same low ∙ eqb-true _ _ t) (inside (1 + (start_of s).directory_sectors) i.1)))
      (λ m. none_same))

  grain_same : eqb (marker_size s p) 0 ≡ false → Same (stream_grain s (start_of s) p next)
  unfolding taken
  grain_same q =
      let k = grain_sectors s true (start_of s).grain_size p in
      whole_same k _
      (cond_all Same (out_of_order (start_of s) next (marker_first s p)) Stop _ (λ t. none_same)
      (λ o i.
      let low : p < kept_sectors s (start_of s) = omega (arith, i.0, i.1) in
      let first = first_same s z p low in
      let takes = takes_same low in
      rw (first, takes) at
      (grain_block (closed_image s) (start_of s) p next (here low) (λ n. eqb-false _ _ q (sym (size_same s z p low) ∙ n))
      (rw first o) (rw takes (inside k i.1)))))

  pub kept_block : Same (block_at s (start_of s) p next)
  kept_block = block_all Same s (start_of s) p next none_same other_same grain_same
