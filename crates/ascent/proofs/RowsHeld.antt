-- What the rows of all tables hold: the grains and, where tables stand between them, the tables.
use Prim.Native.Nat.{ℕ, zero, suc, ◌+◌, ◌*◌, ◌-◌, ◌≤◌, ◌<◌, min}
use mathlib.Core.Path.{◌≡◌, refl, ◌∙◌}
use mathlib.Core.List.{List, [], ◌++◌}
use mathlib.Core.Bool.{Bool, false}
use mathlib.Core.Logic.{⊎_elim}
use native.Mathlib.Omega.{arith}
use native.Mathlib.Nat.{suc-mul}
use borrow.Author.Tests.{lt-ltb, le-ltb}
use Rattle.base.specs.Pick.{pick}
use Rattle.base.specs.Rows.{rows}
use Rattle.base.specs.Rounding.{ceil}
use Rattle.base.proofs.Rounding.{ceil_covers, below_ceil}
use Rattle.base.proofs.Steps.{lt_or_ge, cond_all}
use Rattle.format.specs.Geometry.{file_sectors}
use Rattle.format.specs.Entries.{entry_at}
use Rattle.format.specs.Areas.{Area, table_areas, holders, runs_past}
use Rattle.format.proofs.Areas.{holders_append}
use Rattle.format.proofs.Inside.{none_in, in_both, in_rows, rows_in}
use Rattle.named.specs.Named.{least_sector, entry_area, table_grains, grain_named}
use Rattle.named.specs.Listed.{Grained}
use Rattle.base.proofs.Rows.{rows_split, rows_none}
use Rattle.named.proofs.Named.{tables_named}
use Rattle.named.proofs.NamedGrains.{pick_rows, sector_v_lem}
use Rattle.ascent.specs.Ascend.{table_row, table_rows}

-- rows of two lists each
both_held : (n : ℕ) (p q : ℕ → List Area) (x : ℕ) → holders (rows n (λ d. p d ++ q d)) x
    ≡ holders (rows n p) x + holders (rows n q) x
unfolding rows holders
both_held zero p q x = omega arith
both_held (suc n) p q x = simp holders_append (omega (arith, both_held n p q x))

module _ (s : List ℕ) (between : Bool) (sectors : ℕ) (b packed : Bool) (size per_table directory all : ℕ) where
  -- ---- the grains, table by table
  abbrev grains_of_table : ℕ → List Area
  grains_of_table d = table_grains s (least_sector b) packed size directory d (min per_table (all - d * per_table))

  grains_below : (k : ℕ) → ((d : ℕ) → d < k → d * per_table < all)
      → rows k grains_of_table ≡ rows (min (k * per_table) all) (grain_named s b packed size per_table directory)
  unfolding rows
  grains_below zero used = let z : min (0 * per_table) all ≡ 0 = omega arith in rw z
  grains_below (suc k) used =
      let last = min per_table (all - k * per_table) in
      let here : k * per_table < all = used k (omega arith) in
      let y : min (k * per_table) all ≡ k * per_table = omega arith in
      let z : min (suc k * per_table) all ≡ k * per_table + last = rw suc-mul (omega arith) in
      rw (
        grains_below k (λ d l. used d (omega arith)),
        y,
        z,
        rows_split (k * per_table) last,
        sector_v_lem s b packed (least_sector b) size per_table directory (k * per_table) k refl refl last (omega arith),
      )

  -- ---- the tables between them
  abbrev table_between : ℕ → List Area
  table_between d = pick between (entry_area s (least_sector b) false sectors directory d) []

  tables_between : (n : ℕ) → rows n table_between ≡ pick between (table_areas s b sectors directory n) []
  tables_between n =
      pick_rows between (entry_area s (least_sector b) false sectors directory) (λ d. []) n
      ∙ rw (tables_named s b (least_sector b) refl sectors directory n, rows_none n (λ d. []) (λ k l. refl))

  module _ (one : 1 ≤ per_table) where
    pub rows_held : (x : ℕ) → holders (table_rows s between sectors b packed size per_table directory all) x
        ≡ holders (rows all (grain_named s b packed size per_table directory)) x
        + holders (pick between (table_areas s b sectors directory (ceil all per_table)) []) x
    unfolding table_rows table_row
    rows_held x =
        let n = ceil all per_table in
        let z : min (n * per_table) all ≡ all = omega (arith, ceil_covers all per_table one) in
        let g = grains_below n (λ d l. below_ceil all per_table one d l) in
        both_held n grains_of_table table_between x ∙ rw (g, z, tables_between n)

    -- ---- they lie in the file where the entries' areas do
    module _ (g : Grained s b packed size per_table directory all)
        (t : runs_past (file_sectors s) (table_areas s b sectors directory (ceil all per_table)) ≡ false) (d : ℕ)
        (l : d < ceil all per_table) where
      grains_inside : runs_past (file_sectors s) (grains_of_table d) ≡ false
      unfolding table_grains pick
      grains_inside =
          ⊎_elim (λ h. rw (lt-ltb (entry_at s directory d) (least_sector b) h) (none_in (file_sectors s)))
          (λ h. rw (le-ltb (entry_at s directory d) (least_sector b) h) (g.table d (below_ceil all per_table one d l) h).inside)
          (lt_or_ge (entry_at s directory d) (least_sector b))

      table_inside : runs_past (file_sectors s) (table_between d) ≡ false
      table_inside =
          let u = rw (← tables_named s b (least_sector b) refl sectors directory (ceil all per_table)) at t in
          cond_all (λ (m : List Area). runs_past (file_sectors s) m ≡ false) between _ []
          (λ y. rows_in (file_sectors s) _ (entry_area s (least_sector b) false sectors directory) u d l)
          (λ n. none_in (file_sectors s))

    pub rows_inside : Grained s b packed size per_table directory all
        → runs_past (file_sectors s) (table_areas s b sectors directory (ceil all per_table)) ≡ false
        → runs_past (file_sectors s) (table_rows s between sectors b packed size per_table directory all) ≡ false
    unfolding table_rows table_row
    rows_inside g t =
        in_rows (file_sectors s) (ceil all per_table) _ (λ d l.
        in_both (file_sectors s) (grains_of_table d) (table_between d) (grains_inside g t d l) (table_inside g t d l))
