-- A run of whole words, one a turn: the words first..j are done, and word j is next.
use Prim.Native.Nat.{ℕ, zero, suc, ◌+◌, ◌*◌, ◌/◌, ◌%◌, ◌-◌, ◌^◌, ◌≤◌, ◌<◌}
use mathlib.Core.Path.{◌≡◌, refl, ap, ◌∙◌}
use mathlib.Core.Bool.{Bool, true, false}
use mathlib.Core.List.{List}
use native.Mathlib.Omega.{arith}
use mir.Syntax.{w64}
use mir.Val.{Fits}
use native.Mathlib.Numerals.{add-one}
use lib.Dec.{eqb}
use lib.ListN.{length, get_or, set, take, drop, replicate, length-set, length-replicate}
use lib.Seq.{drop-cons}
use Rattle.std.specs.List.{list_all}
use Rattle.std.proofs.lemmas.List.{get_or-replicate}
use Rattle.base.specs.Bytes.{over}
use Rattle.base.proofs.Over.{over_length}
use Rattle.base.proofs.OverApart.{over_below, over_within, over_past}
use Rattle.marks.specs.Marks.{bit, Free, Taken, Put, Marking, Tested}
use Rattle.marks.proofs.Bits.{ones_set, bit_zero, some_bit}
use Rattle.marks.proofs.BitWords.{sector_at, set_here, set_there}
use Rattle.marks.proofs.BitRuns.{free_join, put_join, taken_widen, tested_free, tested_taken}
use Rattle.marks.proofs.BitRuns.{tested_zero, tested_join, marking_done}
use Rattle.marks.proofs.BitRuns.{marking_refused}

-- ---- word j
module _ (ws : List ℕ) (j : ℕ) where
  word_free : get_or ws j 0 ≡ 0 → Free ws (j * 64) ((j + 1) * 64)
  word_free z s l u =
      sector_at ws j (s % 64) s (omega arith) (omega arith) ∙ ap (λ (w : ℕ). bit w (s % 64)) z ∙ bit_zero (s % 64)

  word_taken : get_or ws j 0 < 2 ^ 64 → (get_or ws j 0 ≡ 0 → ⊥) → Taken ws (j * 64) ((j + 1) * 64)
  word_taken w z =
      let r = some_bit 64 (get_or ws j 0) w z in
      let small : r.0 < 64 = r.1 in
      (j * 64 + r.0, omega arith, omega arith, sector_at ws j r.0 (j * 64 + r.0) small refl ∙ r.2)

  word_put : j < length ws → Put ws (set ws j (2 ^ 64 - 1)) (j * 64) ((j + 1) * 64)
  word_put h =
      record {
        size = length-set ws j (2 ^ 64 - 1);
        inside = λ s l u. set_here ws j (2 ^ 64 - 1) s h (omega arith) ∙ ones_set 64 (s % 64) (omega arith);
        under = λ s u. set_there ws j (2 ^ 64 - 1) s (omega arith);
        over = λ s l. set_there ws j (2 ^ 64 - 1) s (omega arith);
      }

-- ---- n words from word `first` on
pub whole_tested : (ws : List ℕ) (first n : ℕ) → ((i : ℕ) → Fits w64 (get_or ws i 0)) → first + n ≤ length ws
    → Tested ws (first * 64) ((first + n) * 64) (list_all (λ x. eqb x 0) (take n (drop first ws)))
whole_tested ws first zero w h = tested_free ws _ _ (λ s l u. absurd (omega arith))
whole_tested ws first (suc n) w h =
    let e : first + 1 + n ≡ first + suc n = omega arith in
    let here = tested_zero ws (first * 64) ((first + 1) * 64) (get_or ws first 0)
    (λ z. tested_free ws _ _ (word_free ws first z))
    (λ z. tested_taken ws _ _ (word_taken ws first (w first).fits z)) in
    let rest = rw e at (whole_tested ws (first + 1) n w (omega arith)) in
    rw (drop-cons ws first 0 (omega arith), ← add-one first) (tested_join (omega arith) (omega arith) here rest)

module _ (ws : List ℕ) (first n : ℕ) (h : first + n ≤ length ws) where
  abbrev full : List ℕ
  full = replicate n (2 ^ 64 - 1)

  inside : first + length full ≤ length ws
  inside = omega (arith, length-replicate n (2 ^ 64 - 1))

  pub whole_put : Put ws (over ws first full) (first * 64) ((first + n) * 64)
  whole_put =
      record {
        size = over_length ws first full inside;
        inside = λ s l u.
            let q : first + (s / 64 - first) ≡ s / 64 = omega arith in
            let l : s / 64 - first < n = omega arith in
            ap (λ (w : ℕ). bit w (s % 64))
            (rw q at (over_within ws first full inside (s / 64 - first) (omega (arith, length-replicate n (2 ^ 64 - 1))))
            ∙ get_or-replicate n (s / 64 - first) (2 ^ 64 - 1) 0 l)
            ∙ ones_set 64 (s % 64) (omega arith);
        under = λ s u. ap (λ (w : ℕ). bit w (s % 64)) (over_below ws first full inside (s / 64) (omega arith));
        over = λ s l.
            ap (λ (w : ℕ). bit w (s % 64))
            (over_past ws first full inside (s / 64) (omega (arith, length-replicate n (2 ^ 64 - 1))));
      }

-- ---- two words
module _ (ws : List ℕ) (j : ℕ) where
  refused : Taken ws (j * 64) ((j + 2) * 64) → Marking ws ws (j * 64) ((j + 2) * 64) false
  refused t = marking_refused ws _ _ false (tested_taken ws _ _ t) refl

  pub two_first : ((i : ℕ) → Fits w64 (get_or ws i 0)) → (get_or ws j 0 ≡ 0 → ⊥) → Marking ws ws (j * 64) ((j + 2) * 64) false
  two_first w z = refused (taken_widen ws (omega arith) (omega arith) (word_taken ws j (w j).fits z))

  pub two_second : ((i : ℕ) → Fits w64 (get_or ws i 0)) → (get_or ws (j + 1) 0 ≡ 0 → ⊥)
      → Marking ws ws (j * 64) ((j + 2) * 64) false
  two_second w z = refused (taken_widen ws (omega arith) (omega arith) (word_taken ws (j + 1) (w (j + 1)).fits z))

  pub two_marked : j + 2 ≤ length ws → get_or ws j 0 ≡ 0 → get_or ws (j + 1) 0 ≡ 0
      → Marking ws (set (set ws j (2 ^ 64 - 1)) (j + 1) (2 ^ 64 - 1)) (j * 64) ((j + 2) * 64) true
  two_marked h z y =
      let size : length (set ws j (2 ^ 64 - 1)) ≡ length ws = length-set ws j (2 ^ 64 - 1) in
      let first = word_put ws j (omega arith) in
      let second = word_put (set ws j (2 ^ 64 - 1)) (j + 1) (omega (arith, size)) in
      let next : (j + 1 + 1) * 64 ≡ (j + 2) * 64 = omega arith in
      let free : Free ws (j * 64) ((j + 2) * 64) = rw next at (free_join ws (word_free ws j z) (word_free ws (j + 1) y)) in
      marking_done ws _ _ true (tested_free ws _ _ free) _ refl
      (rw next at (put_join (omega arith) (omega arith) first second))

  -- as a run that is cut at its words
  pub two_run : (from count : ℕ) (xs : List ℕ) (r : Bool) → from / 64 ≡ j → from % 64 ≡ 0 → count ≡ 128
      → Marking ws xs (j * 64) ((j + 2) * 64) r → Marking ws xs from (from + count) r
  two_run from count xs r at aligned long m =
      let low : j * 64 ≡ from = omega arith in
      let high : (j + 2) * 64 ≡ from + count = omega arith in
      rw (high, low) at m
