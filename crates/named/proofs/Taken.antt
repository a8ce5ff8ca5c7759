-- A loop that hands over row after row: what is done so far was taken whole.
use Prim.Native.Nat.{ℕ, ◌+◌, ◌-◌, ◌≤◌, ◌<◌}
use mathlib.Core.Path.{◌≡◌}
use mathlib.Core.List.{List, [], ◌++◌}
use mathlib.Core.Bool.{Bool, true, false}
use native.Mathlib.Omega.{arith}
use Rattle.base.specs.Rows.{rows}
use Rattle.base.proofs.Rows.{rows_split, row_alone}
use Rattle.format.specs.Areas.{Area}

module _ {S : Type 0} (takes : S → List Area → S → Bool → Type 0) (a₀ : S) (p : ℕ → List Area) where
  pub rows_start : ((a : S) → takes a [] a false) → takes a₀ (rows 0 p) a₀ false
  unfolding rows
  rows_start none = none a₀

  -- ---- the rows from `base` on, `last` of them, which are the areas l
  module _ (a b : S) (base last : ℕ) (l : List Area) (r : Bool) (m : takes a₀ (rows base p) a false)
      (same : rows last (λ k. p (base + k)) ≡ l) (g : takes a l b r)
      (more : (a b c : S) (l m : List Area) (r : Bool) → takes a l b false → takes b m c r → takes a (l ++ m) c r) where
    pub rows_more : r ≡ false → takes a₀ (rows (base + last) p) b false
    rows_more e = rw (rows_split base last p, same) (more a₀ a b _ _ _ m (rw e at g))

    pub rows_met : ((a b : S) (l m : List Area) → takes a l b true → takes a (l ++ m) b true) → (n : ℕ) → base + last ≤ n
        → r ≡ true → takes a₀ (rows n p) b true
    rows_met stop n h e =
        let q : n ≡ base + last + (n - (base + last)) = omega arith in
        rw (q, rows_split (base + last) _ p, rows_split base last p, same) (stop a₀ b _ _ (more a₀ a b _ _ _ m (rw e at g)))

  -- ---- the next row
  module _ (a b : S) (k : ℕ) (r : Bool) (m : takes a₀ (rows k p) a false) (g : takes a (p k) b r)
      (more : (a b c : S) (l m : List Area) (r : Bool) → takes a l b false → takes b m c r → takes a (l ++ m) c r) where
    pub row_more : r ≡ false → takes a₀ (rows (k + 1) p) b false
    row_more e = rows_more a b k 1 (p k) r m (row_alone p k) g more e

    pub row_met : ((a b : S) (l m : List Area) → takes a l b true → takes a (l ++ m) b true) → (n : ℕ) → k < n → r ≡ true
        → takes a₀ (rows n p) b true
    row_met stop n h e = rows_met a b k 1 (p k) r m (row_alone p k) g more stop n (omega arith) e

  pub rows_all : (a : S) (k n : ℕ) → takes a₀ (rows k p) a false → k ≤ n → n ≤ k → takes a₀ (rows n p) a false
  rows_all a k n m l h = let q : n ≡ k = omega arith in rw q m
