-- What two lists say alike that agree in some bytes: numbers, comparisons and parts there.
use Prim.Native.Nat.{ℕ, zero, suc, ◌+◌, ◌≤◌, ◌<◌}
use mathlib.Core.Path.{◌≡◌, refl, sym, ◌∙◌}
use mathlib.Core.List.{List, [], ◌∷◌}
use native.Mathlib.Omega.{arith}
use native.Mathlib.Nat.{add-zero, add_assoc}
use native.Mathlib.Numerals.{one-add}
use lib.ListN.{length, get_or, take, drop, length-take, length-drop}
use lib.Seq.{get_or-take, get_or-drop, ext_get_or}
use Rattle.base.specs.Bytes.{SameBytes}
use Rattle.base.specs.Numbers.{le_at}
use Rattle.base.specs.Strings.{same_at}

module _ (s t : List ℕ) where
  pub within : (at n b m : ℕ) → SameBytes s t at n → at ≤ b → b + m ≤ at + n → SameBytes s t b m
  within at n b m same l h i j k = same i (omega arith) (omega arith)

  -- a number that stands in t where it stands in s, or in another place
  pub number_same : (at n : ℕ) → SameBytes s t at n → le_at s at n ≡ le_at t at n
  unfolding le_at
  number_same at zero h = refl
  number_same at (suc n) h =
      rw (h at (omega arith) (omega arith), number_same (at + 1) n (within at (suc n) (at + 1) n h (omega arith) (omega arith)))

  pub number_moved : (a b n : ℕ) → ((i : ℕ) → i < n → get_or s (a + i) 0 ≡ get_or t (b + i) 0) → le_at s a n ≡ le_at t b n
  unfolding le_at
  number_moved a b zero h = refl
  number_moved a b (suc n) h =
      rw (
        simp add-zero at (h 0 (omega arith)),
        number_moved (a + 1) (b + 1) n (λ i l. simp (add_assoc, one-add) (h (suc i) (omega arith))),
      )

  pub string_same : (at : ℕ) (w : List ℕ) → SameBytes s t at (length w) → same_at s at w ≡ same_at t at w
  unfolding same_at
  string_same at [] h = refl
  string_same at (x ∷ w) h =
      rw (
        h at (omega arith) (omega arith),
        string_same (at + 1) w (within at (length (x ∷ w)) (at + 1) (length w) h (omega arith) (omega arith)),
      )

  pub part_same : (at n : ℕ) → length s ≡ length t → SameBytes s t at n → take n (drop at s) ≡ take n (drop at t)
  part_same at n long h =
      ext_get_or 0 _ _ (simp (length-take, length-drop, long))
      (λ i b.
      let l : i < n = omega (arith, simp (length-take, length-drop) at b) in
      get_or-take n (drop at s) i 0 l
      ∙ get_or-drop at s i 0
      ∙ h (at + i) (omega arith) (omega arith)
      ∙ sym (get_or-drop at t i 0)
      ∙ sym (get_or-take n (drop at t) i 0 l))
