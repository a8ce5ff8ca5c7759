-- A loop that marks row after row: what is done so far is a run that met nothing.
use Prim.Native.Nat.{ℕ, ◌+◌, ◌-◌, ◌≤◌}
use mathlib.Core.Path.{◌≡◌, refl, ◌∙◌}
use mathlib.Core.List.{List}
use mathlib.Core.Bool.{Bool, true, false}
use native.Mathlib.Omega.{arith}
use lib.ListN.{length}
use Rattle.base.specs.Rows.{rows}
use Rattle.base.proofs.Rows.{rows_split}
use Rattle.format.specs.Areas.{Area}
use Rattle.window.specs.Run.{Run, done}
use Rattle.window.specs.TakenRuns.{run_length, run_more, run_stop}

-- the areas l are marked, and none met a sector that was
pub record Marked (lo : ℕ) (ws₀ : List ℕ) (l : List Area) (ws : List ℕ) : Type 0 where
  pub size : length ws ≡ length ws₀
  pub run : Run lo ws₀ l ws false

module _ (lo : ℕ) (ws₀ : List ℕ) (p : ℕ → List Area) where
  pub marked_start : Marked lo ws₀ (rows 0 p) ws₀
  unfolding rows
  marked_start = record { size = refl; run = done }

  -- ---- the rows from `base` on, `last` of them, which are the areas l
  module _ (ws xs : List ℕ) (base last : ℕ) (l : List Area) (r : Bool) (m : Marked lo ws₀ (rows base p) ws)
      (same : rows last (λ k. p (base + k)) ≡ l) (g : Run lo ws l xs r) where
    pub marked_rows : r ≡ false → Marked lo ws₀ (rows (base + last) p) xs
    marked_rows e =
        record { size = run_length g ∙ m.size; run = rw (rows_split base last p, same) (run_more m.run refl (rw e at g)) }

    pub met_rows : (n : ℕ) → base + last ≤ n → r ≡ true → Run lo ws₀ (rows n p) xs true
    met_rows n h e =
        let q : n ≡ base + last + (n - (base + last)) = omega arith in
        rw (q, rows_split (base + last) _ p, rows_split base last p, same) (run_stop _ (run_more m.run refl g) e)
