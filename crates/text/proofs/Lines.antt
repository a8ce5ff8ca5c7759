-- Laws of a text's lines, as the loop goes through them: what is left says the same as the whole. Premises are what the code
-- knows there.
use Prim.Native.Nat.{ℕ, suc, ◌+◌, ◌<◌, ◌≤◌}
use mathlib.Core.Path.{◌≡◌, sym, ap, ◌∙◌}
use mathlib.Core.List.{List, [], ◌∷◌}
use mathlib.Core.Bool.{Bool, true, false}
use mathlib.Core.Logic.{⊎_elim}
use native.Mathlib.Omega.{arith}
use native.Mathlib.Nat.{add-zero}
use native.Mathlib.Numerals.{add-one}
use lib.Dec.{ltb, eqb, eqb-zero-suc, eqb-suc-suc}
use lib.ListN.{length, drop, length-drop}
use lib.Seq.{drop-drop}
use borrow.Author.Tests.{eq-eqb, ne_eqb, lt-ltb, le-ltb}
use Rattle.base.specs.Pick.{pick}
use Rattle.base.proofs.Steps.{lt_or_ge}
use Rattle.std.specs.Prelude.{Result, Ok, Err}
use Rattle.descriptor.specs.declared.TextRefusal.{TextRefusal}
use Rattle.descriptor.specs.declared.Parsed.{Parsed}
use Rattle.descriptor.specs.declared.State.{State}
use Rattle.descriptor.specs.declared.Stop.TheVariants.{Byte}
use Rattle.descriptor.specs.Words.{count_before}
use Rattle.descriptor.specs.Text.{Span, lines_from, lines}
use Rattle.descriptor.specs.Descriptor.{start, step, ended, unless_refused, judged}

-- ---- the first of the lines that are left
-- a line that ends at `to`, and the lines of w after it, where there are any
abbrev with_line : ℕ → ℕ → Bool → List ℕ → List Span
with_line from to last w = record { from = from; to = to } ∷ pick last [] (lines_from (to + 1) (to + 1) w)

-- the same behind a byte x: it is 0a, or it belongs to the line
behind : (from at x n : ℕ) (w : List ℕ) (b : Bool)
    → lines_from from (at + 1) w ≡ with_line from (at + 1 + n) (eqb n (length w)) (drop (n + 1) w)
    → pick b (record { from = from; to = at } ∷ lines_from (at + 1) (at + 1) w) (lines_from from (at + 1) w)
    ≡ with_line from (at + pick b 0 (n + 1)) (eqb (pick b 0 (n + 1)) (suc (length w))) (drop (pick b 0 (n + 1) + 1) (x ∷ w))
unfolding pick
behind from at x n w true r = simp (add-zero, eqb-zero-suc)
behind from at x n w false r =
    let e : at + 1 + n ≡ at + (n + 1) = omega arith in
    let f : eqb (n + 1) (suc (length w)) ≡ eqb n (length w) = rw (add-one, eqb-suc-suc) in
    let g : drop (n + 1 + 1) (x ∷ w) ≡ drop (n + 1) w = ap (λ (m : ℕ). drop m (x ∷ w)) (add-one (n + 1)) in
    r ∙ rw (e, f, g)

lines_first : (from at : ℕ) (w : List ℕ)
    → lines_from from at w
    ≡ with_line from (at + count_before (Byte 0x0a) w) (eqb (count_before (Byte 0x0a) w) (length w))
    (drop (count_before (Byte 0x0a) w + 1) w)
unfolding lines_from count_before pick
lines_first from at [] = simp add-zero
lines_first from at (x ∷ w) = behind from at x (count_before (Byte 0x0a) w) w (eqb x 0x0a) (lines_first from (at + 1) w)

-- the lines from a place on, where a line begins; past the text's end there are none
unfoldable pub lines_at : List ℕ → ℕ → List Span
lines_at text from = pick (ltb (length text) from) [] (lines_from from from (drop from text))

module _ (text : List ℕ) (from to : ℕ) (h : from ≤ length text) (e : to ≡ from + count_before (Byte 0x0a) (drop from text))
    (k : to ≤ length text) where
  -- the line ends with the text exactly where the next one would begin past its end
  is_last : eqb (count_before (Byte 0x0a) (drop from text)) (length (drop from text)) ≡ ltb (length text) (to + 1)
  is_last =
      let l = length-drop from text in
      ⊎_elim
      (λ p. eq-eqb (count_before (Byte 0x0a) (drop from text)) (length (drop from text)) (omega arith) ∙ sym (lt-ltb _ _ p))
      (λ p. ne_eqb (count_before (Byte 0x0a) (drop from text)) (length (drop from text)) (λ q. omega arith)
      ∙ sym (le-ltb _ _ p))
      (lt_or_ge (length text) (to + 1))

  lines_more : lines_at text from ≡ record { from = from; to = to } ∷ lines_at text (to + 1)
  unfolding lines_at pick
  lines_more =
      let i : from + (count_before (Byte 0x0a) (drop from text) + 1) ≡ to + 1 = omega arith in
      let g : drop (count_before (Byte 0x0a) (drop from text) + 1) (drop from text) ≡ drop (to + 1) text =
      drop-drop _ from text ∙ ap (λ (n : ℕ). drop n text) i in
      rw (le-ltb _ _ h, lines_first from from (drop from text), is_last, g, ← e)

-- ---- the loop
module _ (text : List ℕ) (st : State) (from : ℕ) where
  abbrev pub Left : Type 0
  Left = judged text start (lines text) ≡ judged text st (lines_at text from)

  pub left_start : st ≡ start → from ≡ 0 → Left
  unfolding lines_at pick
  left_start e z = rw (e, z, le-ltb (length text) 0 (omega arith))

  module _ (to : ℕ) (l : Left) (h : from ≤ length text) (e : to ≡ from + count_before (Byte 0x0a) (drop from text))
      (k : to ≤ length text) where
    left_step : (r : Result State TextRefusal) → r ≡ step text st (record { from = from; to = to })
        → judged text start (lines text) ≡ unless_refused r (λ s. judged text s (lines_at text (to + 1)))
    unfolding judged
    left_step r q = l ∙ rw (lines_more text from to h e k, ← q)

    pub left_more : (s : State) → Ok s ≡ step text st (record { from = from; to = to })
        → judged text start (lines text) ≡ judged text s (lines_at text (to + 1))
    left_more s q = left_step (Ok s) q

    pub left_stop : (r : TextRefusal) → Err r ≡ step text st (record { from = from; to = to })
        → Err r ≡ judged text start (lines text)
    left_stop r q = sym (left_step (Err r) q)

  pub left_end : (r : Result Parsed TextRefusal) → Left → length text < from → r ≡ ended st
      → r ≡ judged text start (lines text)
  unfolding lines_at pick judged
  left_end r l h e = rw (l, lt-ltb (length text) from h) e
