-- What entries name, each premise as the code gives it.
use Prim.Native.Nat.{ℕ, zero, suc, ◌+◌, ◌-◌, ◌*◌, ◌≤◌, ◌<◌, ◌^◌, min}
use mathlib.Core.Path.{◌≡◌, refl, sym, ◌∙◌}
use mathlib.Core.List.{List, [], ◌∷◌, append-nil}
use mathlib.Core.Bool.{Bool, true, false}
use native.Mathlib.Omega.{arith}
use lib.Dec.{ltb}
use lib.ListN.{length}
use borrow.Author.Tests.{lt-ltb, le-ltb, ne_eqb}
use Rattle.base.specs.Pick.{pick}
use Rattle.base.specs.Rows.{rows}
use Rattle.base.proofs.Rows.{rows_none, rows_same, rows_split}
use Rattle.format.specs.Geometry.{file_sectors}
use Rattle.format.specs.Entries.{entry_at, meaning, meaning_at, grain_sectors}
use Rattle.format.specs.Areas.{Area, area, named, table_areas, runs_past}
use Rattle.format.specs.declared.Entry.{Entry}
use Rattle.format.specs.declared.Entry.TheVariants.{Absent, Zero, Sector}
use Rattle.format.proofs.Inside.{one_in, rows_in, in_rows}
use Rattle.format.proofs.Entries.{some_sectors}
use Rattle.window.specs.Run.{Run, done}
use Rattle.named.specs.Named.{least_sector, entry_area, entry_areas, table_grains}
use Rattle.named.specs.Listed.{Listed}
use Rattle.blocks.specs.Blocks.{Passed}

-- an entry names nothing below the lowest that is a sector, and else its sector
pub by_least : (f : Entry → List Area) → f Absent ≡ [] → f Zero ≡ [] → (b : Bool) (e : ℕ)
    → f (meaning b e) ≡ pick (ltb e (least_sector b)) [] (f (Sector e))
unfolding meaning least_sector pick
by_least f p q true zero = p
by_least f p q true (suc zero) = q
by_least f p q true (suc (suc n)) =
    rw (
      ne_eqb (suc (suc n)) 0 (λ e. omega arith),
      ne_eqb (suc (suc n)) 1 (λ e. omega arith),
      le-ltb (suc (suc n)) 2
          (omega arith),
    )
by_least f p q false zero = p
by_least f p q false (suc n) = rw (ne_eqb (suc n) 0 (λ e. omega arith), le-ltb (suc n) 1 (omega arith))

-- ---- an entry, and the first n
module _ (s : List ℕ) (b : Bool) (least : ℕ) (q : least ≡ least_sector b) where
  pub entry_named : (packed : Bool) (size t k : ℕ) → named (grain_sectors s packed size) (meaning_at s b t k)
      ≡ entry_area s least packed size t k
  unfolding entry_area named
  entry_named packed size t k = rw q (by_least (named (grain_sectors s packed size)) refl refl b (entry_at s t k))

  -- tables take the same sectors each
  pub table_named : (sectors t k : ℕ) → entry_area s least false sectors t k ≡ named (λ e. sectors) (meaning_at s b t k)
  unfolding entry_area named grain_sectors pick
  table_named sectors t k = rw q (sym (by_least (named (λ e. sectors)) refl refl b (entry_at s t k)))

  pub tables_named : (sectors t n : ℕ) → entry_areas s least false sectors t n ≡ table_areas s b sectors t n
  tables_named sectors t n = rows_same n _ _ (λ k l. table_named sectors t k)

  pub run_tables : (lo sectors t n : ℕ) (ws xs : List ℕ) (r : Bool) → Run lo ws (entry_areas s least false sectors t n) xs r
      → Run lo ws (table_areas s b sectors t n) xs r
  run_tables lo sectors t n ws xs r g = rw (tables_named sectors t n) at g

  pub listed_as : (packed : Bool) (size t n : ℕ) → Listed s (least_sector b) packed size t n → Listed s least packed size t n
  listed_as packed size t n l = rw q l

pub no_area : (s : List ℕ) (least : ℕ) (packed : Bool) (size t k : ℕ) → entry_at s t k < least
    → entry_area s least packed size t k ≡ []
unfolding entry_area pick
no_area s least packed size t k h = rw (lt-ltb (entry_at s t k) least h)

-- ---- one entry
module _ (s : List ℕ) (least : ℕ) (packed : Bool) (size t k e : ℕ) (eq : e ≡ entry_at s t k) where
  module _ (one : 1 ≤ size) (inside : runs_past (file_sectors s) (entry_area s least packed size t k) ≡ false) (h : least ≤ e)
    where
      pub entry_ends : e + grain_sectors s packed size e ≤ file_sectors s
      unfolding entry_area pick
      entry_ends = (one_in (file_sectors s) _ [] (rw (← eq, le-ltb e least h) at inside)).0

      pub entry_read : 512 * e + 12 ≤ length s
      entry_read = omega (arith, entry_ends, some_sectors s packed size e one)

      pub entry_end : (n : ℕ) → n ≡ grain_sectors s packed size e → length s < 2 ^ 64 → e + n < 2 ^ 64
      entry_end n z fit = omega (arith, entry_ends)

  pub area_none : e < least → entry_area s least packed size t k ≡ []
  area_none h = no_area s least packed size t k (rw eq at h)

  pub area_one : (n : ℕ) → least ≤ e → n ≡ grain_sectors s packed size e → entry_area s least packed size t k ≡ area e n ∷ []
  unfolding entry_area pick
  area_one n h z = rw (← eq, le-ltb e least h, ← z)

-- what a turn of the loop over entries asks
pub entry_inside : (s : List ℕ) (least : ℕ) (packed : Bool) (size t n k : ℕ) → Listed s least packed size t n → k < n
    → runs_past (file_sectors s) (entry_area s least packed size t k) ≡ false
entry_inside s least packed size t n k l h = rows_in (file_sectors s) n (entry_area s least packed size t) l.inside k h

pub run_inside : (s : List ℕ) (least : ℕ) (packed : Bool) (size t from count i : ℕ)
    → Listed s least packed size t (from + count) → i < count
    → runs_past (file_sectors s) (entry_area s least packed size t (from + i)) ≡ false
run_inside s least packed size t from count i l h = entry_inside s least packed size t (from + count) (from + i) l (omega arith)

-- ---- entries that are 0 name nothing
pub some_least : (b : Bool) (least : ℕ) → least ≡ least_sector b → 1 ≤ least
unfolding least_sector pick
some_least true least q = omega (arith, q)
some_least false least q = omega (arith, q)

pub zeros_name : (s : List ℕ) (least : ℕ) (packed : Bool) (size t j n k : ℕ) → 1 ≤ least → Passed s t j n k
    → rows (k - j) (λ i. entry_area s least packed size t (j + i)) ≡ []
zeros_name s least packed size t j n k one p = rows_none (k - j) _ none
  where
    none : (i : ℕ) → i < k - j → entry_area s least packed size t (j + i) ≡ []
    none i l =
        let z : entry_at s t (j + i) ≡ 0 = p.zeros (j + i) (omega arith) (omega arith) in
        no_area s least packed size t (j + i) (omega (arith, z))

pub zeros_rows : (s : List ℕ) (least : ℕ) (packed : Bool) (size t j n k : ℕ) → 1 ≤ least → Passed s t j n k
    → rows k (entry_area s least packed size t) ≡ rows j (entry_area s least packed size t)
zeros_rows s least packed size t j n k one p =
    let q : k ≡ j + (k - j) = omega (arith, p.low) in
    rw q (rows_split j (k - j) _ ∙ rw (zeros_name s least packed size t j n k one p) (append-nil _))

-- the entries of a block are among those that are listed
pub listed_run : (s : List ℕ) (least : ℕ) (packed : Bool) (size t n from count : ℕ) → Listed s least packed size t n → from ≤ n
    → count ≡ min 16 (n - from) → Listed s least packed size t (from + count)
listed_run s least packed size t n from count l h e =
    record {
      some = l.some;
      read = omega (arith, l.read);
      inside = in_rows (file_sectors s) (from + count) (entry_area s least packed size t)
          (λ k b. entry_inside s least packed size t n k l (omega arith));
    }

-- ---- the grains of a directory entry
module _ (s : List ℕ) (least : ℕ) (packed : Bool) (size directory d n t : ℕ) (eq : t ≡ entry_at s directory d) where
  pub table_listed : least ≤ t → (least ≤ entry_at s directory d → Listed s least packed size (entry_at s directory d) n)
      → Listed s least packed size t n
  table_listed h f = rw eq (f (rw eq at h))

  module _ (lo : ℕ) (ws : List ℕ) where
    pub table_none : t < least → Run lo ws (table_grains s least packed size directory d n) ws false
    unfolding table_grains pick
    table_none h = rw (← eq, lt-ltb t least h) done

    pub table_some : (xs : List ℕ) (r : Bool) → least ≤ t → Run lo ws (entry_areas s least packed size t n) xs r
        → Run lo ws (table_grains s least packed size directory d n) xs r
    unfolding table_grains pick
    table_some xs r h g = rw (← eq, le-ltb t least h) g
