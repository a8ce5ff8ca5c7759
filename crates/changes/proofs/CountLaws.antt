-- Changes counted, each premise as the code gives it.
use Prim.Native.Nat.{ℕ, ◌+◌, ◌-◌, ◌≤◌}
use mathlib.Core.Path.{◌≡◌, refl, sym, ◌∙◌}
use mathlib.Core.List.{List}
use native.Mathlib.Omega.{arith}
use native.Mathlib.Numerals.{add-one}
use borrow.Author.Tests.{eqb-true, eq-eqb, ne_eqb}
use Rattle.base.specs.Pick.{pick}
use Rattle.base.specs.SumsBelow.{sum_below}
use Rattle.base.proofs.Steps.{not_no}
use Rattle.base.proofs.SumsBelow.{sum_split, sum_none}
use Rattle.format.specs.Entries.{entry_at}
use Rattle.blocks.specs.Blocks.{differs_at, PastBlocks}
use Rattle.changes.specs.TableChanges.{AlikeUpTo, one_if_differs, differing}

module _ (s : List ℕ) (t u : ℕ) where
  -- ---- blocks that are alike
  pub past_same : (k n r : ℕ) → PastBlocks (differs_at s t u) k n r → AlikeUpTo s t u k n r
  past_same k n r p =
      record {
        low = p.low;
        high = p.high;
        same = λ j a b. eqb-true (entry_at s t j) (entry_at s u j) (not_no _ (p.none j a b));
      }

  -- ---- the entries of a block
  pub count_none : (k : ℕ) → differing s t u k + 0 ≡ differing s t u k
  count_none k = omega arith

  pub count_more : (from k count r old new : ℕ) → differing s t u from + count ≡ differing s t u k → old ≡ entry_at s u k
      → new ≡ entry_at s t k → r ≡ one_if_differs old new → differing s t u from + (count + r) ≡ differing s t u (k + 1)
  unfolding sum_below
  count_more from k count r old new w e q p =
      rw add-one
      (let here : r ≡ one_if_differs (entry_at s u k) (entry_at s t k) = rw (← e, ← q) p in omega (arith, here))

  pub count_end : (from k end count : ℕ) → differing s t u from + count ≡ differing s t u k → k ≤ end → end ≤ k
      → differing s t u from + count ≡ differing s t u end
  count_end from k end count w l h = let q : k ≡ end = omega arith in rw q at w

  -- ---- the blocks of a table
  pub table_none : 0 ≡ differing s t u 0
  unfolding sum_below
  table_none = refl

  alike_none : {k n from : ℕ} → AlikeUpTo s t u k n from → differing s t u k ≡ differing s t u from
  unfolding pick
  alike_none {k} {n} {from} p =
      let q : from ≡ k + (from - k) = omega (arith, p.low) in
      sym (rw q (sum_split k (from - k) _
      ∙ omega (
        arith,
        sum_none (from - k) (λ j. one_if_differs (entry_at s u (k + j)) (entry_at s t (k + j)))
            (λ j b.
            rw (eq-eqb (entry_at s u (k + j)) (entry_at s t (k + j)) (sym (p.same (k + j) (omega arith) (omega arith))))),
      )))

  pub table_more : {k n from : ℕ} (count r end : ℕ) → count ≡ differing s t u k → AlikeUpTo s t u k n from
      → differing s t u from + r ≡ differing s t u end → count + r ≡ differing s t u end
  table_more count r end w p q = rw (w, alike_none p) q

  pub table_all : (count k n : ℕ) → count ≡ differing s t u k → k ≤ n → n ≤ k → count ≡ differing s t u n
  table_all count k n w l h = let q : k ≡ n = omega arith in rw q at w

-- ---- one entry
module _ (old new : ℕ) where
  pub one_same : old ≡ new → (0 ≡ one_if_differs old new) × (0 ≤ 1)
  unfolding pick
  one_same e = (rw (eq-eqb old new e), omega arith)

  pub one_other : (old ≡ new → ⊥) → (1 ≡ one_if_differs old new) × (1 ≤ 1)
  unfolding pick
  one_other n = (rw (ne_eqb old new n), omega arith)
