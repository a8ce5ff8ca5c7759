-- Markers, tables and the last three sectors written part after part.
use Prim.Native.Nat.{ℕ, ◌+◌, ◌-◌, ◌≤◌}
use mathlib.Core.Path.{◌≡◌, refl, ap, ◌∙◌}
use mathlib.Core.List.{List, ◌++◌, append_assoc}
use native.Mathlib.Omega.{arith}
use lib.ListN.{length, take, drop, length-append, length-take, length-drop}
use lib.Seq.{take-take}
use Rattle.base.specs.Numbers.{le_bytes}
use Rattle.base.specs.Bytes.{over, zeros}
use Rattle.base.specs.Rows.{rows, entry_bytes}
use Rattle.base.proofs.Numbers.{le_length, le_ends}
use Rattle.base.proofs.Over.{first, last, more, zeros_length}
use Rattle.format.specs.Geometry.{bytes_at}
use Rattle.format.specs.Stream.{KeptGrain}
use Rattle.format.specs.Tail.{marker_bytes, new_entry, footer_bytes}
use Rattle.tail.specs.TailPut.{table_of, last_parts}

pub marker_put : (d x₁ x₂ x₃ x₄ : List ℕ) (at f k : ℕ) → x₄ ≡ over x₃ (at + 16) (zeros 496)
    → x₃ ≡ over x₂ (at + 12) (le_bytes 4 k) → x₂ ≡ over x₁ (at + 8) (le_bytes 4 0) → x₁ ≡ over d at (le_bytes 8 f)
    → at ≤ length d → x₄ ≡ over d at (marker_bytes f k)
unfolding marker_bytes rows
marker_put d x₁ x₂ x₃ x₄ at f k p₄ p₃ p₂ p₁ h =
    let w₁ = first d at x₁ (le_bytes 8 f) (at + 8) p₁ h (le_ends at 8 f (at + 8) refl) in
    let w₂ = more d at x₂ (le_bytes 4 0) x₁ _ (at + 8) (at + 12) p₂ w₁ (le_ends (at + 8) 4 0 (at + 12) (omega arith)) in
    let w₃ = more d at x₃ (le_bytes 4 k) x₂ _ (at + 12) (at + 16) p₃ w₂ (le_ends (at + 12) 4 k (at + 16) (omega arith)) in
    last d at x₄ (zeros 496) x₃ _ (at + 16) p₄ w₃

pub marker_length : (f k : ℕ) → length (marker_bytes f k) ≡ 512
unfolding marker_bytes rows
marker_length f k = simp (length-append, le_length, zeros_length)

pub table_put : (d x y : List ℕ) (at : ℕ) (l : List KeptGrain) (t : ℕ) → y ≡ over x (at + 512) (entry_bytes 512 (new_entry l t))
    → x ≡ over d at (marker_bytes 4 1) → at ≤ length d → y ≡ over d at (table_of l t)
unfolding rows
table_put d x y at l t q p h =
    last d at y _ x (marker_bytes 4 1) (at + 512) q
    (first d at x (marker_bytes 4 1) (at + 512) p h (omega (arith, marker_length 4 1)))

-- ---- the footer: bytes of sector 0 on both sides of the directory's sector
part_ends : (s : List ℕ) (at n here there : ℕ) → at + n ≤ length s → here + n ≡ there → here + length (bytes_at s at n) ≡ there
part_ends s at n here there b e = rw (length-take, length-drop) (omega arith)

regroup : (m a b c z : List ℕ) → m ++ a ++ b ++ c ++ z ≡ (m ++ (a ++ b ++ c)) ++ z
regroup m a b c z = simp append_assoc

pub last_put : (d x₁ x₂ x₃ x₄ x₅ s : List ℕ) (at n : ℕ) → x₅ ≡ over x₄ (at + 1024) (zeros 512)
    → x₄ ≡ over x₃ (at + 576) (take 448 (take (length s - 64) (drop 64 s))) → x₃ ≡ over x₂ (at + 568) (le_bytes 8 n)
    → x₂ ≡ over x₁ (at + 512) (take 56 s) → x₁ ≡ over d at (marker_bytes 0 3) → at ≤ length d → 512 ≤ length s
    → x₅ ≡ over d at (last_parts s n)
unfolding last_parts footer_bytes rows
last_put d x₁ x₂ x₃ x₄ x₅ s at n p₅ p₄ p₃ p₂ p₁ h long =
    let w₁ = first d at x₁ (marker_bytes 0 3) (at + 512) p₁ h (omega (arith, marker_length 0 3)) in
    let w₂ = more d at x₂ (bytes_at s 0 56) x₁ _ (at + 512) (at + 568) p₂ w₁
    (part_ends s 0 56 (at + 512) (at + 568) (omega arith) (omega arith)) in
    let w₃ = more d at x₃ (le_bytes 8 n) x₂ _ (at + 568) (at + 576) p₃ w₂
    (le_ends (at + 568) 8 n (at + 576) (omega arith)) in
    let q : x₄ ≡ over x₃ (at + 576) (bytes_at s 64 448) =
    p₄ ∙ rw (take-take 448 (length s - 64) (drop 64 s) (omega arith)) in
    let w₄ = more d at x₄ (bytes_at s 64 448) x₃ _ (at + 576) (at + 1024) q w₃
    (part_ends s 64 448 (at + 576) (at + 1024) (omega arith) (omega arith)) in
    last d at x₅ (zeros 512) x₄ _ (at + 1024) p₅ w₄
    ∙ ap (over d at) (regroup (marker_bytes 0 3) (bytes_at s 0 56) (le_bytes 8 n) (bytes_at s 64 448) (zeros 512))
