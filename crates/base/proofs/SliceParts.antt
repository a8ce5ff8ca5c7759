-- What the library says of numbers and strings, in the words of the definitions.
use Prim.Native.Nat.{ℕ, ◌+◌, ◌-◌, ◌≤◌}
use mathlib.Core.Path.{◌≡◌, refl}
use mathlib.Core.List.{List, [], ◌∷◌}
use mathlib.Core.Bool.{Bool, true, false, cond}
use native.Mathlib.Omega.{arith}
use native.Mathlib.Nat.{div-div-eq-div-mul}
use native.Mathlib.Numerals.{add-one}
use lib.Dec.{eqb, ltb}
use lib.ListN.{length, take, drop}
use lib.Seq.{drop-cons, take_at}
use Rattle.std.specs.Int.{w64, to_le_bytes}
use Rattle.std.specs.Cmp.Lexicographic.{pointwise}
use Rattle.std.specs.List.{list_all, zip}
use Rattle.std.specs.Char.{to_ascii_lowercase}
use Rattle.base.specs.Pick.{pick}
use Rattle.base.specs.Numbers.{le_bytes}
use Rattle.base.specs.Strings.{same_at, small_letter, same_word}
use Rattle.base.proofs.Numbers.{le_cut, le_length}

-- ---- numbers
pub to_eight : (v : ℕ) → to_le_bytes w64 v ≡ le_bytes 8 v
unfolding le_bytes
to_eight v = simp div-div-eq-div-mul

-- the first bytes of a longer number
pub le_front : (n m v : ℕ) → n ≤ m → take n (le_bytes m v) ≡ le_bytes n v
le_front n m v l =
    let e : n + (m - n) ≡ m = omega arith in
    rw (← e, ← le_cut n (m - n) v) (take_at (le_bytes n v) _ n (le_length n v))

-- ---- strings
same_from : (s : List ℕ) (at : ℕ) (w : List ℕ) → at + length w ≤ length s → pointwise eqb (take (length w) (drop at s)) w
    ≡ same_at s at w
unfolding same_at
same_from s at [] h = refl
same_from s at (x ∷ w) h = rw (drop-cons s at 0 (omega arith), ← add-one at, same_from s (at + 1) w (omega arith))

pub same_part : (s : List ℕ) (at e : ℕ) (w : List ℕ) → length w ≡ e - at → at + length w ≤ length s
    → pointwise eqb (take (e - at) (drop at s)) w ≡ same_at s at w
same_part s at e w q h = rw (← q) (same_from s at w h)

cond_pick : (b : Bool) (x y : ℕ) → cond b x y ≡ pick b x y
unfolding pick
cond_pick true x y = refl
cond_pick false x y = refl

lowercase : (x : ℕ) → to_ascii_lowercase x ≡ small_letter x
lowercase x = rw (← cond_pick (ltb x 91) (x + 32) x, ← cond_pick (ltb x 65) x _)

pub zipped : (w v : List ℕ) → length w ≡ length v
    → list_all (λ (p : ℕ × ℕ). eqb (to_ascii_lowercase p.0) p.1) (zip w v) ≡ same_word w v
unfolding same_word
zipped [] [] h = refl
zipped [] (y ∷ v) h = absurd (omega arith)
zipped (x ∷ w) [] h = absurd (omega arith)
zipped (x ∷ w) (y ∷ v) h = rw (lowercase x, zipped w v (omega arith))
