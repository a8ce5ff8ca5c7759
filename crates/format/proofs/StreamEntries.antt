-- Entries and tables of kept grains: none below the first number, none past the directory entries in use, and one table more
-- for a grain in front of others.
use Prim.Native.Nat.{ℕ, zero, suc, ◌+◌, ◌*◌, ◌/◌, ◌≤◌, ◌<◌}
use mathlib.Core.Path.{◌≡◌, refl, ◌∙◌}
use mathlib.Core.List.{List, ◌∷◌}
use mathlib.Core.Bool.{Bool, true, false}
use mathlib.Core.Logic.{⊎_elim}
use native.Mathlib.Omega.{arith}
use borrow.Author.Tests.{eq-eqb, ne_eqb}
use Rattle.base.specs.Pick.{pick}
use Rattle.base.specs.SumsBelow.{sum_below}
use Rattle.base.proofs.Steps.{lt_or_ge}
use Rattle.base.proofs.SumsBelow.{sum_same}
use Rattle.format.specs.Header.{directory_entries_of}
use Rattle.format.specs.Stream.{KeptGrain}
use Rattle.format.specs.Tail.{kept_entry, has_grains, one_if_table, tables_below}
use Rattle.format.specs.declared.Header.{Header}
use Rattle.format.proofs.Geometry.{entry_used}
use Rattle.format.proofs.StreamKept.{Ascends}
use Rattle.format.proofs.StreamKept.Ascends.{none, some}

one_more : (b : Bool) → 1 ≡ pick b 0 1 + pick b 1 0
unfolding pick
one_more true = refl
one_more false = refl

-- ---- a grain in front of others
module _ (k : KeptGrain) (l : List KeptGrain) where
  pub entry_first : kept_entry (k ∷ l) k.number ≡ k.sector
  unfolding kept_entry pick
  entry_first = rw (eq-eqb k.number k.number refl)

  pub entry_other : (g : ℕ) → (k.number ≡ g → ⊥) → kept_entry (k ∷ l) g ≡ kept_entry l g
  unfolding kept_entry pick
  entry_other g n = rw (ne_eqb k.number g n)

  pub has_first : has_grains (k ∷ l) (k.number / 512) ≡ true
  unfolding has_grains
  has_first = rw (eq-eqb (k.number / 512) (k.number / 512) refl)

  pub has_other : (d : ℕ) → (k.number / 512 ≡ d → ⊥) → has_grains (k ∷ l) d ≡ has_grains l d
  unfolding has_grains
  has_other d n = rw (ne_eqb (k.number / 512) d n)

  other_same : (n : ℕ) → n ≤ k.number / 512 → tables_below (k ∷ l) n ≡ tables_below l n
  other_same n b = sum_same n _ _ (λ d x. rw (has_other d (omega arith)))

  -- its table is counted unless the others have it
  last_more : (n : ℕ) → k.number / 512 ≡ n
      → tables_below (k ∷ l) n + one_if_table (k ∷ l) n ≡ pick (has_grains l n) 0 1 + (tables_below l n + one_if_table l n)
  unfolding pick
  last_more n e =
      let t : has_grains (k ∷ l) n ≡ true = rw (← e) has_first in
      rw (other_same n (omega arith), t) (omega (arith, one_more (has_grains l n)))

  pub table_more : (n : ℕ) → k.number / 512 < n
      → tables_below (k ∷ l) n ≡ pick (has_grains l (k.number / 512)) 0 1 + tables_below l n
  unfolding sum_below
  table_more zero b = absurd (omega arith)
  table_more (suc n) b =
      ⊎_elim (λ low. rw (has_other n (omega arith)) (omega (arith, table_more n low)))
      (λ last. let e : k.number / 512 ≡ n = omega arith in rw e (last_more n e)) (lt_or_ge (k.number / 512) n)

-- ---- none below, none past
module _ (s : List ℕ) (h : Header) where
  pub entry_none : {p next : ℕ} {l : List KeptGrain} → Ascends s h p next l → (g : ℕ) → g < next → kept_entry l g ≡ 0
  unfolding kept_entry
  entry_none none g b = refl
  entry_none (some {k = k} {l = l} e n w a) g b = entry_other k l g (omega arith) ∙ entry_none a g (omega arith)

  pub has_none : {p next : ℕ} {l : List KeptGrain} → Ascends s h p next l → (d : ℕ) → 512 * d + 512 ≤ next
      → has_grains l d ≡ false
  unfolding has_grains
  has_none none d b = refl
  has_none (some {k = k} {l = l} e n w a) d b = has_other k l d (omega arith) ∙ has_none a d (omega arith)

  pub has_past : {p next : ℕ} {l : List KeptGrain} → 1 ≤ h.grain_size → h.entries_per_table ≡ 512 → Ascends s h p next l
      → (d : ℕ) → directory_entries_of h ≤ d → has_grains l d ≡ false
  unfolding has_grains
  has_past one table none d b = refl
  has_past one table (some {k = k} {l = l} e n w a) d b =
      let u : k.number / 512 < directory_entries_of h =
      rw table (entry_used h.capacity h.grain_size one 512 (omega arith) k.number w.used) in
      has_other k l d (omega arith) ∙ has_past one table a d b
