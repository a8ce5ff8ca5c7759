-- Sums of lengths, as the loops go through them.
use Prim.Native.Nat.{ℕ, zero, suc, ◌+◌, ◌-◌, ◌≤◌, ◌<◌}
use mathlib.Core.Path.{◌≡◌, refl, sym, ◌∙◌}
use mathlib.Core.List.{List, [], ◌∷◌}
use mathlib.Core.Bool.{Bool, false, not, ◌||◌}
use native.Mathlib.Omega.{arith}
use native.Mathlib.Nat.{add_assoc, le_refl}
use native.Mathlib.Numerals.{add-one}
use lib.Dec.{eqb, ltb}
use lib.ListN.{length, get_or, take, drop, drop_of_length-le}
use lib.Seq.{drop-cons, take_all}
use borrow.Author.Tests.{eq-eqb, ne_eqb, eqb-true, eqb-false, ltb-false}
use Rattle.base.proofs.Steps.{or_no, not_no, true_or_false}
use mathlib.Core.Logic.{⊎_elim}
use Rattle.format.specs.Chain.{lengths_sum, layer_at, lengths_broken}
use Rattle.lengths.specs.Laid.{Laid, Ends}

sum_drop : (l : List ℕ) (i : ℕ) → i < length l → lengths_sum (drop i l) ≡ get_or l i 0 + lengths_sum (drop (i + 1) l)
unfolding lengths_sum
sum_drop l i h = simp (drop-cons l i 0 h, add-one)

-- equal tests of equal facts
same_eq : (a b c d : ℕ) → (a ≡ b → c ≡ d) → (c ≡ d → a ≡ b) → eqb a b ≡ eqb c d
same_eq a b c d f g =
    ⊎_elim (λ e. e ∙ sym (eq-eqb c d (f (eqb-true a b e)))) (λ n. n ∙ sym (ne_eqb c d (λ q. eqb-false a b n (g q))))
    (true_or_false (eqb a b))

-- what is left of n has to be the sum of the lengths that are left
module _ (l : List ℕ) (n i left : ℕ) where
  abbrev pub Left : Type 0
  Left = eqb (lengths_sum l) n ≡ eqb (lengths_sum (drop i l)) left

  module _ (w : Left) (h : i < length l) where
    pub sum_over : left < get_or l i 0 → false ≡ eqb (lengths_sum l) n
    sum_over o = sym (w ∙ ne_eqb (lengths_sum (drop i l)) left (λ e. omega (arith, sum_drop l i h)))

    pub sum_more : get_or l i 0 ≤ left → eqb (lengths_sum l) n ≡ eqb (lengths_sum (drop (i + 1) l)) (left - get_or l i 0)
    sum_more o =
        w ∙ same_eq (lengths_sum (drop i l)) left (lengths_sum (drop (i + 1) l)) (left - get_or l i 0)
        (λ e. omega (arith, sum_drop l i h)) (λ e. omega (arith, sum_drop l i h))

  pub sum_end : Left → length l ≤ i → eqb left 0 ≡ eqb (lengths_sum l) n
  unfolding lengths_sum
  sum_end w h = same_eq left 0 0 left sym sym ∙ sym (rw (drop_of_length-le l h) at w)

-- ---- where layers end
sum_suc : (l : List ℕ) (k : ℕ) → k < length l → lengths_sum (take (suc k) l) ≡ lengths_sum (take k l) + get_or l k 0
unfolding lengths_sum
sum_suc [] k h = absurd (omega arith)
sum_suc (x ∷ l) zero h = omega arith
sum_suc (x ∷ l) (suc k) h = rw (sum_suc l k (omega arith)) (sym (add_assoc x (lengths_sum (take k l)) (get_or l k 0)))

sum_take : (l : List ℕ) (k : ℕ) → k < length l → lengths_sum (take (k + 1) l) ≡ lengths_sum (take k l) + get_or l k 0
sum_take l k h = rw add-one (sum_suc l k h)

sum_most : (l : List ℕ) (k : ℕ) → lengths_sum (take k l) ≤ lengths_sum l
unfolding lengths_sum
sum_most [] zero = le_refl _
sum_most [] (suc k) = le_refl _
sum_most (x ∷ l) zero = omega arith
sum_most (x ∷ l) (suc k) = omega (arith, sum_most l k)

-- the chain's lengths and what of them is known
module _ (s l : List ℕ) where
  pub laid_of : {most : ℕ} {r : Bool} → r ≡ lengths_broken most s l → r ≡ false → Laid most s l
  laid_of {most} e f =
      let a = or_no (eqb (length l) 0) (ltb most (length l) || not (eqb (lengths_sum l) (length s))) (sym e ∙ f) in
      let b = or_no (ltb most (length l)) (not (eqb (lengths_sum l) (length s))) a.1 in
      record {
        some = omega (arith, eqb-false (length l) 0 a.0);
        few = ltb-false most (length l) b.0;
        whole = eqb-true (lengths_sum l) (length s) (not_no _ b.1);
      }

  pub ends_all : {most : ℕ} → Laid most s l → Ends s l (length l) (length s)
  ends_all z = record { few = le_refl _; there = rw (take_all (length l) l (le_refl _)) (sym z.whole); inside = le_refl _ }

  pub ends_none : Ends s l 0 0
  unfolding lengths_sum
  ends_none = record { few = omega arith; there = refl; inside = omega arith }

  pub ends_up : {most : ℕ} (k start : ℕ) → Laid most s l → Ends s l k start → k < length l
      → Ends s l (k + 1) (start + get_or l k 0)
  ends_up k start z e h = record {
    few = omega arith;
    there = omega (arith, e.there, sum_take l k h);
    inside = omega (arith, e.there, sum_take l k h, sum_most l (k + 1), z.whole);
  }

  module _ (k end : ℕ) (e : Ends s l (k + 1) end) where
    pub layer_fits : get_or l k 0 ≤ end
    layer_fits = omega (arith, e.there, sum_take l k (omega (arith, e.few)))

    pub ends_down : Ends s l k (end - get_or l k 0)
    ends_down = record {
      few = omega (arith, e.few);
      there = omega (arith, e.there, sum_take l k (omega (arith, e.few)));
      inside = omega (arith, e.inside);
    }

    pub layer_is : take (end - (end - get_or l k 0)) (drop (end - get_or l k 0) s) ≡ layer_at s l k
    layer_is =
        let q : end - (end - get_or l k 0) ≡ get_or l k 0 = omega (arith, layer_fits) in
        rw (q, ends_down.there)
