-- All grains in ascending order, table by table: each premise as the code gives it.
use Prim.Native.Nat.{ℕ, ◌+◌, ◌-◌, ◌*◌, ◌≤◌, ◌<◌, min}
use mathlib.Core.Path.{◌≡◌, refl, sym, ap, ◌∙◌}
use mathlib.Core.List.{List}
use mathlib.Core.Bool.{Bool, true, false}
use native.Mathlib.Omega.{arith}
use Rattle.base.specs.Rows.{rows}
use Rattle.base.specs.Rounding.{ceil}
use Rattle.base.proofs.Steps.{stop, skip}
use Rattle.format.specs.Geometry.{file_sectors}
use Rattle.format.specs.Areas.{Area}
use Rattle.named.specs.Named.{least_sector}
use Rattle.ascent.specs.Ascend.{ascend, settled, table_row, row_in_use, table_rows, no_stretch}
use Rattle.ascent.specs.declared.Stretch.{Stretch}
use Rattle.ascent.proofs.Ascending.{rows_start, row_more, rows_fell, rows_all}

module _ (s : List ℕ) (between : Bool) (sectors : ℕ) (b packed : Bool) (size per_table directory all : ℕ) where
  abbrev row : ℕ → List Area
  row = row_in_use s between sectors b packed size per_table directory all

  abbrev begun : Stretch
  begun = no_stretch (file_sectors s)

  -- the tables before d are in the stretch, and it has not fallen
  pub record Rising (reached : Stretch) (d : ℕ) : Type 0 where
    pub over : reached.falls ≡ false
    pub so_far : reached ≡ ascend begun (rows d row)

  pub rising_start : (f : ℕ) → f ≡ file_sectors s → Rising (no_stretch f) 0
  rising_start f e = record { over = refl; so_far = rw e (rows_start begun row) }

  module _ (n d : ℕ) (en : n ≡ ceil all per_table) (l : d < n) (least last : ℕ) (q : least ≡ least_sector b)
      (e : last ≡ min per_table (all - d * per_table)) (reached next : Stretch) (i : Rising reached d)
      (g : next ≡ ascend reached (table_row s between sectors least packed size directory d last))
    where
      same : table_row s between sectors least packed size directory d last ≡ row d
      same = rw (e, q)

      so_now : next ≡ ascend begun (rows (d + 1) row)
      so_now = row_more begun row reached next d i.so_far (rw same at g)

      pub rising_more : next.falls ≡ false → Rising next (d + 1)
      rising_more over = record { over = over; so_far = so_now }

      -- where it fell, it stays so
      pub rising_fell : next.falls ≡ true
          → record { first = 0; end = 0; falls = true } ≡ settled (ascend begun (table_rows s between sectors b packed size
          per_table directory all))
      unfolding settled table_rows
      rising_fell t = stop _ _ _ refl (rows_fell begun row next (d + 1) (ceil all per_table) so_now t (omega arith)) refl

  pub rising_all : (reached : Stretch) (n d : ℕ) → Rising reached d → n ≡ ceil all per_table → n ≤ d → d ≤ n
      → reached ≡ settled (ascend begun (table_rows s between sectors b packed size per_table directory all))
  unfolding settled table_rows
  rising_all reached n d i en h l =
      let e = rows_all begun row reached d (ceil all per_table) i.so_far (omega arith) (omega arith) in
      skip _ _ _ refl (sym (ap (λ (o : Stretch). o.falls) e) ∙ i.over) e
