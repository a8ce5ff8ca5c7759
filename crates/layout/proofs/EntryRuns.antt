-- Rows written one after another, as a loop writes them.
use Prim.Native.Nat.{ℕ, ◌+◌, ◌*◌, ◌≤◌}
use mathlib.Core.Path.{◌≡◌, ap, ◌∙◌}
use mathlib.Core.List.{List}
use native.Mathlib.Omega.{arith}
use native.Mathlib.Numerals.{add-one}
use lib.ListN.{length}
use Rattle.base.specs.Numbers.{le_bytes}
use Rattle.base.specs.Bytes.{over}
use Rattle.base.specs.Rows.{rows, entry_bytes}
use Rattle.base.proofs.Over.{over_none, last}
use Rattle.base.proofs.Rows.{entries_length}

module _ (f : ℕ → List ℕ) where
  pub rows_none : (d : List ℕ) (at : ℕ) → d ≡ over d at (rows 0 f)
  unfolding rows
  rows_none d at = over_none d at

  -- row k was written where the rows before it end
  pub rows_more : (d xs ys : List ℕ) (at here k : ℕ) → ys ≡ over xs here (f k) → xs ≡ over d at (rows k f)
      → at + length (rows k f) ≡ here
      → at ≤ length d → ys ≡ over d at (rows (k + 1) f)
  unfolding rows
  rows_more d xs ys at here k p e l h =
      rw add-one (last d at ys (f k) xs (rows k f) here p (record { is = e; ends = l; room = h }))

module _ (e : ℕ → ℕ) where
  pub entries_long : (k : ℕ) → length (entry_bytes k e) ≡ 4 * k
  entries_long k = omega (arith, entries_length k e)

  -- entry k was written at its place
  pub entries_more : (d xs ys : List ℕ) (at k v : ℕ) → ys ≡ over xs (at + 4 * k) (le_bytes 4 v) → v ≡ e k
      → xs ≡ over d at (entry_bytes k e) → at ≤ length d
      → ys ≡ over d at (entry_bytes (k + 1) e)
  entries_more d xs ys at k v p q r h =
      rows_more (λ i. le_bytes 4 (e i)) d xs ys at (at + 4 * k) k (p ∙ ap (λ (i : ℕ). over xs (at + 4 * k) (le_bytes 4 i)) q)
      r (ap (λ (i : ℕ). at + i) (entries_long k)) h
