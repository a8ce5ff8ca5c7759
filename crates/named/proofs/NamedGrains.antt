-- All grains, table by table: each premise as the code gives it.
use Prim.Native.Nat.{ℕ, ◌+◌, ◌*◌, ◌-◌, ◌≤◌, ◌<◌, min}
use mathlib.Core.Path.{◌≡◌, refl, ap, ◌∙◌}
use mathlib.Core.List.{List, []}
use mathlib.Core.Bool.{Bool, true, false}
use native.Mathlib.Omega.{arith}
use lib.Dec.{ltb}
use lib.ListN.{length}
use Rattle.base.specs.Pick.{pick}
use Rattle.base.specs.Rows.{rows}
use Rattle.base.specs.Rounding.{ceil}
use Rattle.base.proofs.Rounding.{next_base, below_ceil, ceil_covers}
use Rattle.base.proofs.Rows.{rows_none, rows_same}
use Rattle.format.specs.Entries.{entry_at, in_table, grain_sectors}
use Rattle.format.specs.Areas.{Area, named}
use Rattle.format.proofs.Entries.{entry_of}
use Rattle.window.specs.Run.{Run}
use Rattle.named.specs.Named.{least_sector, entry_area, table_grains, grain_named}
use Rattle.named.specs.Listed.{Listed, Grained}
use Rattle.named.proofs.Marked.{Marked, marked_start, marked_rows, met_rows}
use Rattle.named.proofs.Named.{by_least, entry_named}

-- rows under a test
pub pick_rows : (b : Bool) (p q : ℕ → List Area) (n : ℕ) → rows n (λ k. pick b (p k) (q k)) ≡ pick b (rows n p) (rows n q)
unfolding pick
pick_rows true p q n = refl
pick_rows false p q n = refl

module _ (s : List ℕ) (b packed : Bool) (least size per_table directory base d : ℕ) (q : least ≡ least_sector b)
    (eq : base ≡ d * per_table) where
  -- grain base + k uses directory entry d and table entry k
  pub grain_at_lem : (k : ℕ) → k < per_table
      → grain_named s b packed size per_table directory (base + k)
      ≡ pick (ltb (entry_at s directory d) least) [] (entry_area s least packed size (entry_at s directory d) k)
  unfolding grain_named named in_table
  grain_at_lem k h =
      ap (named (grain_sectors s packed size)) (entry_of s b per_table directory base d k eq h)
      ∙ by_least (λ x. named (grain_sectors s packed size) (in_table s b k x)) refl refl b (entry_at s directory d)
      ∙ rw (← q, entry_named s b least q packed size (entry_at s directory d) k)

  pub sector_v_lem : (n : ℕ) → n ≤ per_table → rows n (λ k. grain_named s b packed size per_table directory (base + k))
      ≡ table_grains s least packed size directory d n
  unfolding table_grains
  sector_v_lem n h =
      rows_same n _ _ (λ k l. grain_at_lem k (omega arith))
      ∙ pick_rows (ltb (entry_at s directory d) least) (λ k. []) (entry_area s least packed size (entry_at s directory d)) n
      ∙ rw (rows_none n (λ k. []) (λ k l. refl))

-- ---- a loop over tables, as it comes to directory entry d, whose first grain is d * per_table: what a turn asks
module _ (s : List ℕ) (b packed : Bool) (size per_table directory all least d : ℕ) (q : least ≡ least_sector b)
    (g : Grained s b packed size per_table directory all) (n : ℕ) (en : n ≡ ceil all per_table) (l : d < n) where
  pub turn_used : d * per_table < all
  turn_used = below_ceil all per_table g.some d (omega arith)

  pub turn_entry : 512 * directory + 4 * d + 4 ≤ length s
  turn_entry = g.entry d turn_used

  pub turn_table : (last : ℕ) → last ≡ min per_table (all - d * per_table) → least ≤ entry_at s directory d
      → Listed s least packed size (entry_at s directory d) last
  turn_table last el h = rw (el, q) (g.table d turn_used (rw q at h))

-- ---- the loop that marks them
module _ (lo : ℕ) (ws₀ s : List ℕ) (b packed : Bool) (size per_table directory all : ℕ) where
  -- the tables before d are marked
  pub record Tables (ws : List ℕ) (d : ℕ) : Type 0 where
    pub marked : Marked lo ws₀ (rows (min (d * per_table) all) (grain_named s b packed size per_table directory)) ws

  pub tables_start : Tables ws₀ 0
  tables_start = let z : min (0 * per_table) all ≡ 0 = omega arith in record { marked = rw z (marked_start lo ws₀ _) }

  module _ (ws : List ℕ) (d last least : ℕ) (i : Tables ws d) (q : least ≡ least_sector b) (used : d * per_table < all)
      (el : last ≡ min per_table (all - d * per_table)) (xs : List ℕ) (r : Bool)
      (g : Run lo ws (table_grains s least packed size directory d last) xs r) where
    so_far : Marked lo ws₀ (rows (d * per_table) (grain_named s b packed size per_table directory)) ws
    so_far = let z : min (d * per_table) all ≡ d * per_table = omega arith in rw z at i.marked

    same : rows last (λ k. grain_named s b packed size per_table directory (d * per_table + k))
        ≡ table_grains s least packed size directory d last
    same = sector_v_lem s b packed least size per_table directory (d * per_table) d q refl last (omega arith)

    pub tables_more : r ≡ false → Tables xs (d + 1)
    tables_more f =
        let z : min ((d + 1) * per_table) all ≡ d * per_table + last =
        omega (arith, next_base (d * per_table) d per_table refl) in
        record { marked = rw z (marked_rows lo ws₀ _ ws xs (d * per_table) last _ r so_far same g f) }

    pub tables_met : r ≡ true → Run lo ws₀ (rows all (grain_named s b packed size per_table directory)) xs true
    tables_met f = met_rows lo ws₀ _ ws xs (d * per_table) last _ r so_far same g all (omega arith) f

  pub tables_all : (ws : List ℕ) (d n : ℕ) → Tables ws d → 1 ≤ per_table → n ≡ ceil all per_table → n ≤ d → d ≤ n
      → Run lo ws₀ (rows all (grain_named s b packed size per_table directory)) ws false
  tables_all ws d n i some e h l =
      let q : d ≡ ceil all per_table = omega arith in
      let z : min (d * per_table) all ≡ all = rw q (omega (arith, ceil_covers all per_table some)) in
      rw z at i.marked.run
