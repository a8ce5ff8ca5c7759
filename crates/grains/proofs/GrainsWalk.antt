-- What the walk over directory and table entries asks on its way, each premise as the code gives it.
use Prim.Native.Nat.{ℕ, ◌+◌, ◌-◌, ◌*◌, ◌≤◌, ◌<◌, min}
use mathlib.Core.Path.{◌≡◌, refl, sym, ◌∙◌}
use mathlib.Core.List.{List}
use mathlib.Core.Bool.{Bool, true, false, ◌&&◌}
use mathlib.Core.Logic.{⊎_elim}
use native.Mathlib.Omega.{arith}
use native.Mathlib.Nat.{add_assoc}
use lib.ListN.{length}
use Rattle.base.specs.Pick.{pick}
use Rattle.format.specs.Geometry.{file_sectors}
use Rattle.format.specs.Header.{grains_of, directory_entries_of}
use Rattle.format.specs.Entries.{entry_at, meaning, in_table, meaning_at, grain_entry, grain_sectors}
use Rattle.format.specs.Areas.{named, runs_past}
use Rattle.format.specs.Check.{lowest_from, grain_past}
use Rattle.format.specs.declared.Header.{Header}
use Rattle.format.specs.declared.Entry.{Entry}
use Rattle.format.specs.declared.Entry.TheVariants.{Absent, Zero, Sector}
use Rattle.format.proofs.Entries.{entry_of}
use Rattle.format.proofs.Geometry.{table_used, entries_enough}
use Rattle.format.proofs.NoSector.{no_sector}
use Rattle.format.specs.Judged.{Placed}
use Rattle.format.proofs.PlacesKept.{primary_room, table_room}
use Rattle.blocks.specs.Blocks.{Passed}
use Rattle.grains.proofs.GrainsLeft.{Left, left_range, left_more, left_here, left_none}
use Rattle.grains.proofs.GrainsRule.{broken, rule_of, absent_kept, zero_kept}
use Rattle.std.specs.Prelude.{Some, None}

-- the table at sector t: its entry k is that of grain first + k, for each k below used
pub record Table (s : List ℕ) (h : Header) (all first t used : ℕ) : Type 0 where
  pub under : first + used ≤ all
  pub reads : 512 * t + 4 * used ≤ length s
  pub entry : (k : ℕ) → k < used → grain_entry s h (first + k) ≡ meaning_at s h.one_is_zero t k

pub table_whole : {s : List ℕ} {h : Header} {all first t used : ℕ} → Table s h all first t used → 512 * t + 4 * used ≤ length s
table_whole n = n.reads

-- ---- entries that are 0 are passed over
zero_absent : (one_is_zero : Bool) (e : ℕ) → e ≡ 0 → meaning one_is_zero e ≡ Absent
unfolding meaning pick
zero_absent one_is_zero e z = rw z

pub zeros_passed : {s : List ℕ} {h : Header} {all first t used : ℕ} (markers : Bool) (j k : ℕ) → Table s h all first t used
    → Left (rule_of s h markers) all (first + j) → Passed s t j used k → Left (rule_of s h markers) all (first + k)
zeros_passed {s} {h} {all} {first} {t} {used} markers j k n l p =
    let q : first + k ≡ first + j + (k - j) = omega (arith, p.low) in
    rw q
    (left_range _ all (first + j) (k - j) l (λ i b. sym (absent_kept s markers h.packed h.grain_size _ (first + j + i)
    (at_zero i b))))
  where
    at_zero : (i : ℕ) → i < k - j → grain_entry s h (first + j + i) ≡ Absent
    at_zero i b =
        let m : j + i < used = omega (arith, p.high) in
        let z : entry_at s t (j + i) ≡ 0 = p.zeros (j + i) (omega arith) (omega arith) in
        rw add_assoc (n.entry (j + i) m ∙ zero_absent h.one_is_zero _ z)

-- ---- directory entry d, whose first grain is d tables on
module _ (s : List ℕ) (h : Header) (d first : ℕ) (eq : first ≡ d * h.entries_per_table) where
  module _ (all : ℕ) (p : Placed s h) (ea : all ≡ grains_of h) (below : first < all) where
    in_use : d < directory_entries_of h
    in_use =
        let z = p.sound in
        table_used h.capacity h.grain_size z.sizes.low h.entries_per_table z.some d (omega arith)

    pub directory_in : 512 * h.directory + 4 * d + 4 ≤ length s
    directory_in = omega (arith, in_use, primary_room s h p (directory_entries_of h) refl)

  module _ (table : Entry) (et : table ≡ meaning_at s h.one_is_zero h.directory d) where
    entry_under : (v : Entry) → table ≡ v → (k : ℕ) → k < h.entries_per_table → grain_entry s h (first + k)
        ≡ in_table s h.one_is_zero k v
    entry_under v q k b =
        entry_of s h.one_is_zero h.entries_per_table h.directory first d k eq b ∙ rw (sym et ∙ q)

    -- it names no table
    module _ (markers : Bool) (all : ℕ) (l : Left (rule_of s h markers) all first) where
      pub no_table : ((t : ℕ) → table ≡ Sector t → ⊥) → Left (rule_of s h markers) all (first + h.entries_per_table)
      unfolding in_table
      no_table other =
          left_range _ all first _ l (λ k b. sym (⊎_elim
          (λ q. absent_kept s markers h.packed h.grain_size _ (first + k) (entry_under Absent q k b))
          (λ q. zero_kept s markers h.packed h.grain_size _ (first + k) (entry_under Zero q k b)) (no_sector table other)))

    -- it names one
    pub table_named : (all t used : ℕ) → table ≡ Sector t → Placed s h → all ≡ grains_of h → first < all → used
        ≡ min h.entries_per_table (all - first) → Table s h all first t used
    unfolding in_table
    table_named all t used q p ea below eu =
        record {
          under = omega arith;
          reads = omega (arith, table_room s h p (directory_entries_of h) refl d t (in_use all p ea below) (sym et ∙ q));
          entry = λ k b. entry_under (Sector t) q k (omega arith);
        }

-- ---- entry k of a table, in a block that ends at `end`
module _ {s : List ℕ} {h : Header} {all first t used end k : ℕ} (n : Table s h all first t used) (low : end ≤ used)
    (below : k < end) where
  b : k < used
  b = omega arith

  pub table_in : 512 * t + 4 * k + 4 ≤ length s
  table_in = omega (arith, n.reads)

  module _ {entry : Entry} (markers : Bool) (ee : entry ≡ meaning_at s h.one_is_zero t k) where
    pub entry_filed : all ≡ grains_of h → ((g : ℕ) → g < grains_of h → (markers && grain_past s h g) ≡ false)
        → (markers && runs_past (file_sectors s) (named (grain_sectors s h.packed h.grain_size) entry)) ≡ false
    entry_filed ea filed = rw (ee, ← n.entry k b) (filed (first + k) (omega (arith, n.under)))

    module _ {r : Bool} (er : r ≡ broken s markers h.packed h.grain_size (first + k) entry)
        (l : Left (rule_of s h markers) all (first + k)) where
      rule_is : (v : Bool) → r ≡ v → rule_of s h markers (first + k) ≡ v
      rule_is v ev = rw (n.entry k b, ← ee) (sym er ∙ ev)

      pub walk_more : r ≡ false → Left (rule_of s h markers) all (first + (k + 1))
      walk_more ev = left_more _ all first k l (rule_is false ev)

      pub walk_here : r ≡ true → all ≡ grains_of h → Some (first + k) ≡ lowest_from (rule_of s h markers) 0 (grains_of h)
      walk_here ev ea = rw (← ea) (left_here _ all (first + k) l (omega (arith, n.under)) (rule_is true ev))

-- ---- all tables
pub walk_none : (s : List ℕ) (h : Header) (markers : Bool) (all n d : ℕ) → Placed s h → all ≡ grains_of h
    → n ≡ directory_entries_of h → d ≤ n → n ≤ d → Left (rule_of s h markers) all (d * h.entries_per_table)
    → None ≡ lowest_from (rule_of s h markers) 0 (grains_of h)
walk_none s h markers all n d p ea en l m w =
    let z = p.sound in
    let enough = entries_enough h.capacity h.grain_size z.sizes.low h.entries_per_table z.some in
    let e : d ≡ directory_entries_of h = omega arith in
    left_none _ _ all _ ea w (rw e (omega (arith, enough)))
