-- The part of a run that lies in word j, by the word's mask.
use Prim.Native.Nat.{ℕ, ◌+◌, ◌*◌, ◌-◌, ◌/◌, ◌%◌, ◌≤◌, ◌<◌, min, max}
use mathlib.Core.Path.{◌≡◌, ◌∙◌}
use mathlib.Core.Bool.{true, false}
use mathlib.Core.Logic.{⊎_elim}
use mathlib.Core.List.{List}
use native.Mathlib.Omega.{arith}
use mir.Syntax.{w64}
use mir.Val.{Fits}
use lib.ListN.{length, get_or, set, length-set}
use lib.Dec.{eqb}
use lib.Bits.{bit_and, bit_or}
use Rattle.base.proofs.Steps.{lt_or_ge}
use Rattle.marks.specs.Marks.{bit, marked, Put, Tested, Mask}
use Rattle.marks.proofs.Bits.{bit_or_lem, no_common, some_common}
use Rattle.marks.proofs.BitWords.{sector_at, set_here, set_there}
use Rattle.marks.proofs.BitRuns.{tested_free, tested_taken, tested_zero}

module _ (ws : List ℕ) (j from end m : ℕ) (mask : Mask (j * 64) from end m) where
  abbrev low : ℕ
  low = max from (j * 64)

  abbrev high : ℕ
  high = min end ((j + 1) * 64)

  -- ---- tested: a word that shares no bit with the mask has no sector of the run marked, and one that shares a bit has
  word_free : bit_and (get_or ws j 0) m ≡ 0 → Tested ws low high true
  word_free z =
      tested_free ws low high
      (λ s l u.
      sector_at ws j (s % 64) s (omega arith) (omega arith)
      ∙ no_common (get_or ws j 0) m z (s % 64) (mask.inside (s % 64) (omega arith) (omega arith) (omega arith)))

  word_taken : ((i : ℕ) → Fits w64 (get_or ws i 0)) → (bit_and (get_or ws j 0) m ≡ 0 → ⊥) → Tested ws low high false
  word_taken w z =
      let r = some_common (get_or ws j 0) m (w j).fits z in
      let k = r.0 in
      let small : k < 64 = r.1 in
      let under : j * 64 + k < from → ⊥ = λ n. omega (arith, r.3, mask.under k small n) in
      let over : end ≤ j * 64 + k → ⊥ = λ n. omega (arith, r.3, mask.over k small n) in
      tested_taken ws low high
      (j * 64 + k, omega arith, omega arith, sector_at ws j k (j * 64 + k) small (omega arith) ∙ r.2)

  pub word_tested : ((i : ℕ) → Fits w64 (get_or ws i 0)) → Tested ws low high (eqb (bit_and (get_or ws j 0) m) 0)
  word_tested w = tested_zero ws low high (bit_and (get_or ws j 0) m) word_free (word_taken w)

  -- ---- marked
  module _ (h : j < length ws) where
    abbrev next : List ℕ
    next = set ws j (bit_or (get_or ws j 0) m)

    -- a sector that the mask has not is as it was
    kept : (s : ℕ) → (s / 64 ≡ j → bit m (s % 64) ≡ 0) → marked next s ≡ marked ws s
    kept s f =
        ⊎_elim (λ (b : s < j * 64). set_there ws j _ s (omega arith))
        (λ (b : j * 64 ≤ s).
        ⊎_elim
        (λ (u : s < j * 64 + 64).
        let e : s / 64 ≡ j = omega arith in
        set_here ws j _ s h e ∙ rw e (omega (arith, bit_or_lem (get_or ws j 0) m (s % 64), f e)))
        (λ (u : j * 64 + 64 ≤ s). set_there ws j _ s (omega arith))
        (lt_or_ge s (j * 64 + 64)))
        (lt_or_ge s (j * 64))

    pub word_put : Put ws next low high
    word_put =
        record {
          size = length-set ws j _;
          inside = λ s l u.
              set_here ws j _ s h (omega arith)
              ∙ omega (
                arith,
                bit_or_lem (get_or ws j 0) m (s % 64),
                mask.inside (s % 64) (omega arith) (omega arith) (omega arith),
              );
          under = λ s u. kept s (λ e. mask.under (s % 64) (omega arith) (omega arith));
          over = λ s l. kept s (λ e. mask.over (s % 64) (omega arith) (omega arith));
        }

-- ---- the first word of a run, from `from` on
module _ (ws : List ℕ) (from m : ℕ) (mask : Mask (from / 64 * 64) from ((from / 64 + 1) * 64) m) where
  first_low : max from (from / 64 * 64) ≡ from
  first_low = omega arith

  first_high : min ((from / 64 + 1) * 64) ((from / 64 + 1) * 64) ≡ (from / 64 + 1) * 64
  first_high = omega arith

  pub first_tested : ((i : ℕ) → Fits w64 (get_or ws i 0))
      → Tested ws from ((from / 64 + 1) * 64) (eqb (bit_and (get_or ws (from / 64) 0) m) 0)
  first_tested w = rw (first_low, first_high) at (word_tested ws (from / 64) from _ m mask w)

  pub first_put : from < 64 * length ws
      → Put ws (set ws (from / 64) (bit_or (get_or ws (from / 64) 0) m)) from ((from / 64 + 1) * 64)
  first_put h = rw (first_low, first_high) at (word_put ws (from / 64) from _ m mask (omega arith))

-- ---- the last word of a run, up to `end`
module _ (ws : List ℕ) (end m : ℕ) (some : 1 ≤ end) (mask : Mask ((end - 1) / 64 * 64) ((end - 1) / 64 * 64) end m) where
  last_low : max ((end - 1) / 64 * 64) ((end - 1) / 64 * 64) ≡ (end - 1) / 64 * 64
  last_low = omega arith

  last_high : min end (((end - 1) / 64 + 1) * 64) ≡ end
  last_high = omega arith

  pub last_tested : ((i : ℕ) → Fits w64 (get_or ws i 0))
      → Tested ws ((end - 1) / 64 * 64) end (eqb (bit_and (get_or ws ((end - 1) / 64) 0) m) 0)
  last_tested w = rw (last_low, last_high) at (word_tested ws ((end - 1) / 64) _ end m mask w)

  pub last_put : end ≤ 64 * length ws
      → Put ws (set ws ((end - 1) / 64) (bit_or (get_or ws ((end - 1) / 64) 0) m)) ((end - 1) / 64 * 64) end
  last_put h = rw (last_low, last_high) at (word_put ws ((end - 1) / 64) _ end m mask (omega arith))
