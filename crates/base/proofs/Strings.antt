-- Laws of fixed strings: their comparisons as loops go through them, and what a comparison that holds says.
use Prim.Native.Nat.{ℕ, suc, ◌+◌, ◌≤◌}
use mathlib.Core.Path.{◌≡◌, refl, ap}
use mathlib.Core.List.{List, [], ◌∷◌}
use mathlib.Core.Bool.{true, false, and-false}
use native.Mathlib.Omega.{arith}
use lib.ListN.{length, take, drop, length-take, length-drop}
use borrow.Author.Tests.{eqb-true, eq-eqb}
use Rattle.base.specs.Strings.{same_at, same_word}
use Rattle.base.proofs.Steps.{and_yes}
use Rattle.base.proofs.Stands.{Stands, head_of, tail_of, stands_cons, read_bytes, bytes_stand}

-- words of different lengths
pub word_long : (w v : List ℕ) → (length w ≡ length v → ⊥) → false ≡ same_word w v
unfolding same_word
word_long [] [] n = absurd (n refl)
word_long [] (y ∷ v) n = refl
word_long (x ∷ w) [] n = refl
word_long (x ∷ w) (y ∷ v) n = rw (← word_long w v (λ e. n (ap suc e)), and-false)

-- ---- the comparison holds exactly where the bytes read there are those of the string, all of them
pub read_same : {s : List ℕ} {at : ℕ} (w : List ℕ) → Stands s at w → same_at s at w ≡ true
unfolding same_at
read_same [] h = refl
read_same {s} {at} (x ∷ w) h = rw (eq-eqb _ _ (head_of h), read_same {at = at + 1} w (tail_of h))

pub same_stands : (s : List ℕ) (at : ℕ) (w : List ℕ) → at + length w ≤ length s → same_at s at w ≡ true → Stands s at w
unfolding same_at
same_stands s at [] h e = record { inside = h; same = λ i l. absurd (omega arith) }
same_stands s at (x ∷ w) h e =
    let both = and_yes _ _ e in stands_cons (eqb-true _ _ both.0) (same_stands s (at + 1) w (omega arith) both.1)

pub same_bytes : (s : List ℕ) (at : ℕ) (w : List ℕ) → at + length w ≤ length s → same_at s at w ≡ true
    → take (length w) (drop at s) ≡ w
same_bytes s at w h e = read_bytes (same_stands s at w h e)

pub bytes_same : (s : List ℕ) (at : ℕ) (w : List ℕ) → take (length w) (drop at s) ≡ w → same_at s at w ≡ true
unfolding same_at
bytes_same s at [] e = refl
bytes_same s at (x ∷ w) e =
    read_same (x ∷ w) (bytes_stand s at (x ∷ w) (omega (arith, simp (length-take, length-drop) at (ap length e))) e)
