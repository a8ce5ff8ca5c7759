-- The header's fields written one after another.
use Prim.Native.Nat.{ℕ, ◌*◌, ◌≤◌}
use mathlib.Core.Path.{◌≡◌, refl, sym, ◌∙◌}
use mathlib.Core.List.{List, ◌++◌, append_assoc}
use native.Mathlib.Omega.{arith}
use lib.ListN.{length, length-append}
use Rattle.base.specs.Numbers.{le_bytes}
use Rattle.base.specs.Bytes.{over, zeros}
use Rattle.base.specs.Rows.{rows}
use Rattle.base.proofs.Numbers.{le_length}
use Rattle.base.proofs.Over.{first, last, parts, zeros_add}
use Rattle.format.specs.Kdmv.{kdmv_magic, newline_bytes}
use Rattle.format.specs.Cowd.{cowd_magic}
use Rattle.format.specs.Layout.{head_sectors, table_count, sector_v, header_bytes}
use Rattle.format.specs.declared.Kind.{Kind}
use Rattle.format.specs.declared.Kind.TheVariants.{Kdmv, Cowd}
use Rattle.layout.specs.WrittenParts.{header_front, header_back, cowd_front}

pub front : (d x₁ x₂ x₃ x₄ x₅ x₆ x₇ x₈ : List ℕ) (c n : ℕ) → x₈ ≡ over x₇ 44 (le_bytes 4 512) → x₇ ≡ over x₆ 36 (le_bytes 8 0)
    → x₆ ≡ over x₅ 28 (le_bytes 8 0)
    → x₅ ≡ over x₄ 20 (le_bytes 8 n) → x₄ ≡ over x₃ 12 (le_bytes 8 c) → x₃ ≡ over x₂ 8 (le_bytes 4 5)
    → x₂ ≡ over x₁ 4 (le_bytes 4 2) → x₁ ≡ over d 0 kdmv_magic
    → x₈ ≡ over d 0 (header_front c n)
unfolding header_front rows
front d x₁ x₂ x₃ x₄ x₅ x₆ x₇ x₈ c n p₈ p₇ p₆ p₅ p₄ p₃ p₂ p₁ =
    let w : 0 ≤ length d = omega arith in
    let w₁ = first _ _ _ _ 4 p₁ w refl in
    search parts depth 16 fits 20000

pub back : (d x₁ x₂ x₃ x₄ x₅ x₆ : List ℕ) (v : ℕ) → x₆ ≡ over x₅ 77 (zeros 435) → x₅ ≡ over x₄ 73 newline_bytes
    → x₄ ≡ over x₃ 72 (zeros 1)
    → x₃ ≡ over x₂ 64 (le_bytes 8 v) → x₂ ≡ over x₁ 56 (le_bytes 8 1) → x₁ ≡ over d 48 (le_bytes 8 0)
    → 512 ≤ length d → x₆ ≡ over d 48 (header_back v)
unfolding header_back rows
back d x₁ x₂ x₃ x₄ x₅ x₆ v p₆ p₅ p₄ p₃ p₂ p₁ h =
    let k : 48 ≤ length d = omega arith in
    let n : length newline_bytes ≡ 4 = refl in
    search parts depth 16

-- ---- the whole, of KDMV
front_length : (c n : ℕ) → length (header_front c n) ≡ 48
unfolding header_front rows
front_length c n = simp (length-append, le_length)

-- compression and padding are one run of zeros
two_zeros : zeros 435 ≡ le_bytes 2 0 ++ zeros 433
unfolding le_bytes zeros
two_zeros = sym (zeros_add 2 433)

regroup : (f p q r s t z y x : List ℕ) → z ≡ y ++ x → f ++ (p ++ q ++ r ++ s ++ t ++ z) ≡ f ++ p ++ q ++ r ++ s ++ t ++ y ++ x
regroup f p q r s t z y x e = rw e (simp append_assoc)

header_is : (c n : ℕ) → header_front c n ++ header_back (sector_v Kdmv c n) ≡ header_bytes Kdmv c n 0
unfolding header_front header_back header_bytes rows
header_is c n =
    regroup (header_front c n) (le_bytes 8 0) (le_bytes 8 1) (le_bytes 8 (sector_v Kdmv c n)) (zeros 1) newline_bytes
    (zeros 435)
    (le_bytes 2 0) (zeros 433) two_zeros

pub header_join : (d x y : List ℕ) (c n v : ℕ) → y ≡ over x 48 (header_back v) → x ≡ over d 0 (header_front c n)
    → v ≡ sector_v Kdmv c n → y ≡ over d 0 (header_bytes Kdmv c n 0)
header_join d x y c n v q p e =
    last _ _ _ _ _ _ _ q (first _ _ _ _ 48 p (omega arith) (omega (arith, front_length c n))) ∙ rw (e, header_is c n)

-- ---- of COWD
pub cowd_front_lem : (d x₁ x₂ x₃ x₄ x₅ x₆ x₇ x₈ : List ℕ) (c z n sectors : ℕ) → x₈ ≡ over x₇ 28 (le_bytes 4 sectors)
    → x₇ ≡ over x₆ 24 (le_bytes 4 n) → x₆ ≡ over x₅ 20 (le_bytes 4 4) → x₅ ≡ over x₄ 16 (le_bytes 4 z)
    → x₄ ≡ over x₃ 12 (le_bytes 4 c) → x₃ ≡ over x₂ 8 (le_bytes 4 3) → x₂ ≡ over x₁ 4 (le_bytes 4 1)
    → x₁ ≡ over d 0 cowd_magic → x₈ ≡ over d 0 (cowd_front c z n sectors)
unfolding cowd_front rows
cowd_front_lem d x₁ x₂ x₃ x₄ x₅ x₆ x₇ x₈ c z n sectors p₈ p₇ p₆ p₅ p₄ p₃ p₂ p₁ =
    let w : 0 ≤ length d = omega arith in
    let w₁ = first _ _ _ _ 4 p₁ w refl in
    search parts depth 16 fits 20000

cowd_length : (c z n sectors : ℕ) → length (cowd_front c z n sectors) ≡ 32
unfolding cowd_front rows
cowd_length c z n sectors = simp (length-append, le_length)

cowd_is : (c z sectors : ℕ) → cowd_front c z (table_count Cowd c z) sectors ++ zeros 2016 ≡ header_bytes Cowd c z sectors
unfolding cowd_front header_bytes rows
cowd_is c z sectors = refl

pub cowd_join : (d x y : List ℕ) (c z n sectors : ℕ) → y ≡ over x 32 (zeros 2016) → x ≡ over d 0 (cowd_front c z n sectors)
    → n ≡ table_count Cowd c z → y ≡ over d 0 (header_bytes Cowd c z sectors)
cowd_join d x y c z n sectors q p e =
    last _ _ _ _ _ _ _ q (first _ _ _ _ 32 p (omega arith) (omega (arith, cowd_length c z n sectors)))
    ∙ rw (e, cowd_is c z sectors)

-- ---- by kind
pub kdmv_as : (kind : Kind) (d y : List ℕ) (c z sectors : ℕ) → kind ≡ Kdmv → y ≡ over d 0 (header_bytes Kdmv c z 0)
    → y ≡ over d 0 (header_bytes kind c z sectors)
unfolding header_bytes
kdmv_as kind d y c z sectors e p = rw e p

pub cowd_as : (kind : Kind) (d y : List ℕ) (c z sectors : ℕ) → kind ≡ Cowd → y ≡ over d 0 (header_bytes Cowd c z sectors)
    → y ≡ over d 0 (header_bytes kind c z sectors)
cowd_as kind d y c z sectors e p = rw e p

pub room_as : (kind other : Kind) (n : ℕ) → kind ≡ other → 512 * head_sectors kind ≤ n → 512 * head_sectors other ≤ n
room_as kind other n e p = rw e at p
