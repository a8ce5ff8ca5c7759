-- How a comparison goes on, and how it ends.
use Prim.Native.Nat.{ℕ, zero, suc, ◌+◌, ◌-◌, ◌*◌, ◌/◌, ◌≤◌, ◌<◌}
use mathlib.Core.Path.{◌≡◌, sym, ap, ◌∙◌}
use mathlib.Core.List.{List}
use mathlib.Core.Logic.{⊎_elim}
use native.Mathlib.Omega.{arith}
use native.Mathlib.Nat.{add-zero}
use lib.ListN.{length, get_or, take, drop}
use lib.Seq.{get_or-take, get_or-drop}
use Rattle.base.specs.Numbers.{le_at, le_bytes}
use Rattle.base.specs.Bytes.{zeros}
use Rattle.base.proofs.Numbers.{le_length, bytes_back}
use Rattle.base.proofs.Over.{zeros_length, zeros_at}
use Rattle.base.proofs.SliceParts.{le_front}
use Rattle.base.proofs.Steps.{lt_or_ge}
use Rattle.alike.specs.FirstOther.{FirstOther, ZerosTo}

-- the first i bytes of w stand there
abbrev pub Same : List ℕ → ℕ → List ℕ → ℕ → Type 0
Same s at w i = (k : ℕ) → k < i → get_or s (at + k) 0 ≡ get_or w k 0

module _ (s : List ℕ) (at : ℕ) (w : List ℕ) (i : ℕ) (same : Same s at w i) where
  pub found : i < length w → (get_or s (at + i) 0 ≡ get_or w i 0 → ⊥) → FirstOther s at w (at + i)
  found l n =
      record {
        low = omega arith;
        high = omega arith;
        same = λ k b. same k (omega arith);
        other = λ k e b q. let j : k ≡ i = omega arith in n (rw j at q);
      }

  pub ended : length w ≤ i → i ≤ length w → FirstOther s at w (at + i)
  ended l h =
      record {
        low = omega arith;
        high = omega arith;
        same = λ k b. same k (omega arith);
        other = λ k e b q. omega arith;
      }

-- ---- zeros
abbrev pub Zero : List ℕ → ℕ → ℕ → Type 0
Zero s at i = (k : ℕ) → k < i → get_or s (at + k) 0 ≡ 0

module _ (s : List ℕ) (at n i : ℕ) (zero : Zero s at i) where
  as_zeros : Same s at (zeros n) i
  as_zeros k l = zero k l ∙ sym (zeros_at n k)

  pub found_byte : i < n → (get_or s (at + i) 0 ≡ 0 → ⊥) → FirstOther s at (zeros n) (at + i)
  found_byte l m = found s at (zeros n) i as_zeros (omega (arith, zeros_length n)) (λ q. m (q ∙ zeros_at n i))

pub ended_zeros : (s : List ℕ) (at n : ℕ) → Zero s at n → FirstOther s at (zeros n) (at + n)
ended_zeros s at n h =
    ended s at (zeros n) n (as_zeros s at n n h) (omega (arith, zeros_length n)) (omega (arith, zeros_length n))

-- a number that is 0 has no other bytes
pub zero_bytes : (s : List ℕ) (at n : ℕ) → le_at s at n ≡ 0 → (i : ℕ) → i < n → get_or s (at + i) 0 ≡ 0
unfolding le_at
zero_bytes s at zero e i l = absurd (omega arith)
zero_bytes s at (suc n) e zero l = rw add-zero (omega arith)
zero_bytes s at (suc n) e (suc i) l =
    let q : at + suc i ≡ at + 1 + i = omega arith in rw q (zero_bytes s (at + 1) n (omega arith) i (omega arith))

-- ---- zeros passed over
pub passed_none : (s : List ℕ) (at n : ℕ) → ZerosTo s at n 0
passed_none s at n = record { high = omega arith; zeros = λ i l. absurd (omega arith) }

pub passed_word : (s : List ℕ) (at n k w : ℕ) → ZerosTo s at n (8 * k) → k < n / 8 → w ≡ le_at s (at + 8 * k) 8 → w ≡ 0
    → ZerosTo s at n (8 * (k + 1))
passed_word s at n k w p h e z =
    record {
      high = omega arith;
      zeros = λ i l. ⊎_elim (λ b. p.zeros i b)
          (λ g.
          let q : at + i ≡ at + 8 * k + (i - 8 * k) = omega arith in
          rw q (zero_bytes s (at + 8 * k) 8 (sym e ∙ z) (i - 8 * k) (omega arith)))
          (lt_or_ge i (8 * k));
    }

-- ---- a number
pub number_same : (s : List ℕ) (at v n : ℕ) → ((i : ℕ) → get_or s i 0 < 256) → at + 4 ≤ length s → n ≡ le_at s at 4 → n ≡ v
    → FirstOther s at (le_bytes 4 v) (at + 4)
number_same s at v n bytes h e q =
    let same : Same s at (le_bytes 4 n) 4 = λ i l.
    sym (ap (λ (w : List ℕ). get_or w i 0) (ap (le_bytes 4) e ∙ bytes_back s bytes at 4 h)
    ∙ get_or-take 4 (drop at s) i 0 l
    ∙ get_or-drop at s i 0) in
    rw (← q) (ended s at (le_bytes 4 n) 4 same (omega (arith, le_length 4 n)) (omega (arith, le_length 4 n)))

pub number_other : (s w : List ℕ) (at v r : ℕ) → w ≡ le_bytes 8 v → FirstOther s at (take 4 w) r
    → FirstOther s at (le_bytes 4 v) r
number_other s w at v r e p = rw (e, le_front 4 8 v (omega arith)) at p
