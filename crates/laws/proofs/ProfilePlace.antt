-- When two files are the same, and where they first differ: 42's place.
use Prim.Native.Nat.{ℕ, zero, suc, ◌≤◌, ◌<◌}
use mathlib.Core.Path.{◌≡◌, refl, sym, ap}
use mathlib.Core.List.{List, [], ◌∷◌, ◌++◌}
use mathlib.Core.Bool.{true, false, false≢true}
use mathlib.Core.Logic.{⊎_elim}
use native.Mathlib.Omega.{arith}
use lib.Dec.{eqb}
use lib.ListN.{length, get_or, length-append, get_or-append}
use borrow.Author.Tests.{eqb-true, eqb-false, eq-eqb}
use Rattle.base.specs.Bytes.{SameBytes}
use Rattle.base.proofs.Steps.{and_yes, true_or_false, cond_all, lt_or_ge}
use Rattle.format.specs.Profile.{same_file, first_difference}
use Rattle.laws.specs.ProfileImages.{DifferAt, byte, first_ends, second_ends, FirstAt}

-- ---- the same file is every byte and the length
pub same_file_lem : (a b : List ℕ) → same_file a b ≡ true → a ≡ b
unfolding same_file
same_file_lem [] [] e = refl
same_file_lem [] (y ∷ b) e = absurd (false≢true e)
same_file_lem (x ∷ a) [] e = absurd (false≢true e)
same_file_lem (x ∷ a) (y ∷ b) e =
    let both = and_yes (eqb x y) (same_file a b) e in rw (eqb-true x y both.0, same_file_lem a b both.1)

own_file : (a : List ℕ) → same_file a a ≡ true
unfolding same_file
own_file [] = refl
own_file (x ∷ a) = rw (eq-eqb x x refl) (own_file a)

pub file_same : (a b : List ℕ) → a ≡ b → same_file a b ≡ true
file_same a b e = rw e (own_file b)

pub other_file : (a b : List ℕ) → (a ≡ b → ⊥) → same_file a b ≡ false
other_file a b n = ⊎_elim (λ e. absurd (n (same_file_lem a b e))) (λ e. e) (true_or_false (same_file a b))

-- ---- where they differ
alike_after : (x y : ℕ) (a b : List ℕ) (n : ℕ) → x ≡ y → SameBytes a b 0 n → SameBytes (x ∷ a) (y ∷ b) 0 (suc n)
alike_after x y a b n e same zero l h = e
alike_after x y a b n e same (suc i) l h = same i (omega arith) (omega arith)

module _ {x y : ℕ} {a b : List ℕ} {n : ℕ} where
  differ_after : DifferAt a b n → DifferAt (x ∷ a) (y ∷ b) (suc n)
  differ_after (byte l h q) = byte (omega arith) (omega arith) q
  differ_after (first_ends e l) = first_ends (omega arith) (omega arith)
  differ_after (second_ends e l) = second_ends (omega arith) (omega arith)

  first_after : x ≡ y → FirstAt a b n → FirstAt (x ∷ a) (y ∷ b) (suc n)
  first_after e f = record { alike = alike_after x y a b n e f.alike; differ = differ_after f.differ }

first_here : {a b : List ℕ} → DifferAt a b 0 → FirstAt a b 0
first_here d = record { alike = λ i l h. absurd (omega arith); differ = d }

-- the place is the first byte that differs, or the shorter length where one file is a start of the other
pub place_first : (a b : List ℕ) → (a ≡ b → ⊥) → FirstAt a b (first_difference a b)
unfolding first_difference
place_first [] [] n = absurd (n refl)
place_first [] (y ∷ b) n = first_here (first_ends refl (omega arith))
place_first (x ∷ a) [] n = first_here (second_ends refl (omega arith))
place_first (x ∷ a) (y ∷ b) n =
    cond_all (FirstAt (x ∷ a) (y ∷ b)) (eqb x y) _ _
    (λ t. let e = eqb-true x y t in first_after e (place_first a b (λ q. n (rw (e, q)))))
    (λ f. first_here (byte (omega arith) (omega arith) (eqb-false x y f)))

-- ---- and there is only one such place, and none in a file and itself
-- it lies in both files, or at the end of one
pub differ_low : {a b : List ℕ} {n : ℕ} → DifferAt a b n → (n ≤ length a) × (n ≤ length b)
differ_low (byte l h q) = (omega arith, omega arith)
differ_low (first_ends e l) = (omega arith, omega arith)
differ_low (second_ends e l) = (omega arith, omega arith)

not_below : {a b : List ℕ} {n m : ℕ} → DifferAt a b n → FirstAt a b m → n < m → ⊥
not_below {n = n} (byte l h q) f r = q (f.alike n (omega arith) (omega arith))
not_below (first_ends e l) f r = omega (arith, (differ_low f.differ).0)
not_below (second_ends e l) f r = omega (arith, (differ_low f.differ).1)

pub place_only : {a b : List ℕ} {n m : ℕ} → FirstAt a b n → FirstAt a b m → n ≡ m
place_only {n = n} {m} f g =
    ⊎_elim (λ l. absurd (not_below f.differ g l))
    (λ l. ⊎_elim (λ k. absurd (not_below g.differ f k)) (λ k. omega arith) (lt_or_ge m n)) (lt_or_ge n m)

pub first_differs : {a b : List ℕ} {n : ℕ} → FirstAt a b n → a ≡ b → ⊥
first_differs f e = differs f.differ e
  where
    differs : {a b : List ℕ} {n : ℕ} → DifferAt a b n → a ≡ b → ⊥
    differs {n = n} (byte l h q) e = q (ap (λ (x : List ℕ). get_or x n 0) e)
    differs (first_ends i l) e = omega (arith, ap length e)
    differs (second_ends i l) e = omega (arith, ap length e)

-- ---- where one is a start of the other
module _ (a tail : List ℕ) (some : 1 ≤ length tail) where
  pub longer_first : FirstAt (a ++ tail) a (length a)
  longer_first = record {
    alike = λ i l h. get_or-append a tail 0 i (omega arith);
    differ = second_ends refl (rw length-append (omega arith));
  }

  pub start_first : FirstAt a (a ++ tail) (length a)
  start_first = record {
    alike = λ i l h. sym (longer_first.alike i l h);
    differ = first_ends refl (rw length-append (omega arith));
  }
