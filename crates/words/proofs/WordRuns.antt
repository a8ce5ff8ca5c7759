-- Laws of runs of bytes, as the searches from either end tell them.
use Rattle.std.proofs.Common.{◌≡◌, ℕ, zero, suc, ◌+◌, ◌<◌, ◌≤◌, List, [], ◌∷◌, length, true, false, Option, None, Some}
use Rattle.std.proofs.Common.{refl, sym, ◌∙◌, arith}
use Rattle.std.specs.Prelude.{unwrap_or}
use Rattle.std.specs.List.{AllWithin, HoldsAt, slice_index}
use Rattle.std.specs.Option.{MatchOption, IfSome}
use Rattle.std.proofs.lemmas.Iterator.{index_from_first}
use borrow.Author.Tests.{eq-eqb, ne_eqb}
use Rattle.base.specs.Pick.{pick}
use Rattle.base.proofs.Steps.{cond_all, lt_or_ge}
use mathlib.Core.Logic.{⊎_elim}
use Rattle.descriptor.specs.declared.Stop.{Stop}
use Rattle.descriptor.specs.declared.Stop.TheVariants.{Byte, NotTrimmed}
use Rattle.descriptor.specs.Words.{quote, stops, count_before, kept, to_quote_at, to_quote}

-- the first at which a run stops, counted from 0
pub run_length : (stop : Stop) (w : List ℕ) (r : Option ℕ)
    → MatchOption r (AllWithin (λ x. stops stop x ≡ false) w 0 (length w))
    (λ i. (i < length w) × HoldsAt (λ x. stops stop x ≡ true) w i × AllWithin (λ x. stops stop x ≡ false) w 0 i)
    → count_before stop w ≡ unwrap_or r (length w)
unfolding count_before pick
run_length stop w r h =
    index_from_first (count_before stop) (λ x. stops stop x ≡ true) (λ x. stops stop x ≡ false) refl
    (λ x xs e. rw e) (λ x xs e. rw e) w r h

pub run_inside : (stop : Stop) (w : List ℕ) → count_before stop w ≤ length w
unfolding count_before
run_inside stop [] = omega arith
run_inside stop (x ∷ w) =
    cond_all (λ n. n ≤ suc (length w)) _ _ _ (λ e. omega arith) (λ e. omega (arith, run_inside stop w))

-- no value where the run goes to the end
pub quote_first : (w : List ℕ) (r : Option ℕ)
    → MatchOption r (AllWithin (λ x. stops (Byte quote) x ≡ false) w 0 (length w))
    (λ i. (i < length w) × HoldsAt (λ x. stops (Byte quote) x ≡ true) w i
    × AllWithin (λ x. stops (Byte quote) x ≡ false) w 0 i)
    → (r ≡ to_quote w) × IfSome r (λ n. n < length w)
unfolding to_quote_at pick
quote_first w None h = (rw (run_length (Byte quote) w None h, eq-eqb (length w) (length w) refl), tt)
quote_first w (Some i) h =
    (rw (run_length (Byte quote) w (Some i) h, ne_eqb i (length w) (λ e. omega (arith, h.0))), h.0)

-- ---- the end, trimmed: of the first n bytes, those up to the last that is not trimmed
module _ (w : List ℕ) where
  kept_none : (n : ℕ) → ((k : ℕ) → k < n → stops NotTrimmed (slice_index w k) ≡ false) → kept w n ≡ 0
  unfolding kept pick
  kept_none zero h = refl
  kept_none (suc n) h = rw (h n (omega arith)) (kept_none n (λ k l. h k (omega arith)))

  kept_some : (n i : ℕ) → i < n → ((k : ℕ) → i < k → k < n → stops NotTrimmed (slice_index w k) ≡ false)
      → stops NotTrimmed (slice_index w i) ≡ true → kept w n ≡ i + 1
  unfolding kept pick
  kept_some zero i l h e = absurd (omega arith)
  kept_some (suc n) i l h e =
      ⊎_elim (λ b. rw (h n b (omega arith)) (kept_some n i (omega arith) (λ k a b. h k a (omega arith)) e))
      (λ (b : n ≤ i). let q : n ≡ i = omega arith in rw (q, e) (omega arith)) (lt_or_ge i n)

  -- the last such byte, searched from the end
  pub kept_last : (r : Option ℕ) (n : ℕ)
      → MatchOption r ((k : ℕ) → k < length w → stops NotTrimmed (slice_index w k) ≡ false)
      (λ i. (i < length w) × ((k : ℕ) → i < k → k < length w → stops NotTrimmed (slice_index w k) ≡ false)
      × (stops NotTrimmed (slice_index w i) ≡ true))
      → MatchOption r (n ≡ 0) (λ i. n ≡ i + 1)
      → (n ≡ kept w (length w)) × (n ≤ length w)
  kept_last None n h e = (e ∙ sym (kept_none (length w) h), omega arith)
  kept_last (Some i) n h e = (e ∙ sym (kept_some (length w) i h.0 h.1 h.2), omega arith)
