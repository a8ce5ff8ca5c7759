-- Words counted and cleared one after the other.
use Prim.Native.Nat.{ℕ, zero, suc, ◌+◌, ◌*◌, ◌/◌, ◌%◌, ◌^◌, ◌≤◌, ◌<◌}
use mathlib.Core.Path.{◌≡◌, refl, sym, ap, ◌∙◌}
use mathlib.Core.List.{List}
use native.Mathlib.Omega.{arith}
use native.Mathlib.Nat.{pow-suc, zero-add}
use lib.ListN.{length, get_or, set}
use lib.Pow.{shr-shr}
use lib.Count.{ones, ones_step}
use Rattle.base.specs.Bytes.{over, zeros}
use Rattle.base.specs.SumsBelow.{sum_below}
use Rattle.base.proofs.Over.{over_whole, store_more, zeros_add, zeros_length}
use Rattle.base.proofs.OverApart.{over_past}
use Rattle.base.proofs.SumsBelow.{sum_same, sum_split, sum_most}
use Rattle.marks.specs.Marks.{bit, marked}
use Rattle.marks.proofs.BitWords.{sector_at}
use Rattle.counts.specs.MarkedCount.{marked_count, Emptied}

-- ---- one word: its bits are its binary digits
first_and_rest : (n : ℕ) (f : ℕ → ℕ) → sum_below f (suc n) ≡ sum_below f 1 + sum_below (λ k. f (1 + k)) n
first_and_rest n f = let e : suc n ≡ 1 + n = omega arith in ap (sum_below f) e ∙ sum_split 1 n f

pub bits_ones : (n w : ℕ) → w < 2 ^ n → ones w ≡ sum_below (bit w) n
unfolding sum_below ones
bits_ones zero w h = let z : w ≡ 0 = omega arith in rw z
bits_ones (suc n) w h =
    let rest : sum_below (λ k. bit w (1 + k)) n ≡ sum_below (bit (w / 2)) n =
    sum_same n _ _ (λ k b. ap (λ (x : ℕ). x % 2) (sym (shr-shr w 1 k))) in
    omega (arith, first_and_rest n (bit w), ones_step w, bits_ones n (w / 2) (omega (arith, pow-suc 2 n)))

pub sums_none : (f : ℕ → ℕ) → ◌≡◌ {A = ℕ} 0 (sum_below f 0)
unfolding sum_below
sums_none f = refl

-- ---- the sectors of the first i words, and of the next one
module _ (ws : List ℕ) (i : ℕ) where
  word_more : sum_below (marked ws) (64 * (i + 1)) ≡ sum_below (marked ws) (64 * i) + sum_below (bit (get_or ws i 0)) 64
  word_more =
      let e : 64 * (i + 1) ≡ 64 * i + 64 = omega arith in
      let word : sum_below (λ k. marked ws (64 * i + k)) 64 ≡ sum_below (bit (get_or ws i 0)) 64 =
      sum_same 64 _ _ (λ k b. sector_at ws i k (64 * i + k) b (omega arith)) in
      rw (e, sum_split (64 * i) 64 (marked ws), word)

  counted_most : sum_below (marked ws) (64 * i) ≤ 64 * i
  counted_most = sum_most (64 * i) (marked ws) (λ x b. omega arith)

-- ---- words of which the first i are cleared
module _ (ws₀ ws : List ℕ) (i : ℕ) (e : ws ≡ over ws₀ 0 (zeros i)) where
  pub cleared_more : i < length ws₀ → set ws i 0 ≡ over ws₀ 0 (zeros (i + 1))
  unfolding zeros
  cleared_more h =
      rw zero-add at (store_more ws₀ ws 0 i (zeros i) 0 e (zeros_length i) (omega arith)) ∙ ap (over ws₀ 0) (zeros_add i 1)

  -- the next one is as it was
  next_kept : i < length ws₀ → get_or ws i 0 ≡ get_or ws₀ i 0
  next_kept h =
      ap (λ (l : List ℕ). get_or l i 0) e
      ∙ over_past ws₀ 0 (zeros i) (omega (arith, zeros_length i)) i (omega (arith, zeros_length i))

  pub cleared_all : length ws₀ ≤ i → i ≤ length ws₀ → ws ≡ zeros (length ws₀)
  cleared_all h l =
      let q : i ≡ length ws₀ = omega arith in
      e ∙ rw q (over_whole ws₀ (zeros (length ws₀)) (zeros_length (length ws₀)))

  -- ---- and counted
  module _ (total : ℕ) (t : total ≡ sum_below (marked ws₀) (64 * i)) where
    module _ (h : i < length ws₀) (count : ℕ) (c : count ≡ sum_below (bit (get_or ws i 0)) 64) where
      pub counted_more : total + count ≡ sum_below (marked ws₀) (64 * (i + 1))
      counted_more = omega (arith, word_more ws₀ i, ap (λ (w : ℕ). sum_below (bit w) 64) (next_kept h))

      pub counted_fits : 64 * length ws₀ < 2 ^ 64 → total + count < 2 ^ 64
      counted_fits f = omega (arith, counted_more, counted_most ws₀ (i + 1))

    pub emptied : length ws₀ ≤ i → i ≤ length ws₀ → Emptied ws₀ ws total
    unfolding marked_count
    emptied h l =
        let q : i ≡ length ws₀ = omega arith in record { counted = rw q at t; cleared = cleared_all h l }
