-- The entries of a closed image (request A12), read through its new directory and tables: each grain's is the sector where it
-- was kept, or 0.
use Prim.Native.Nat.{ℕ, ◌+◌, ◌*◌, ◌/◌, ◌%◌, ◌≤◌, ◌<◌}
use mathlib.Core.Path.{◌≡◌, refl, sym, ap, ◌∙◌}
use mathlib.Core.List.{List, [], ◌∷◌}
use mathlib.Core.Bool.{Bool, true, false}
use mathlib.Core.Logic.{⊎_elim}
use native.Mathlib.Omega.{arith}
use lib.Dec.{eqb}
use borrow.Author.Tests.{eqb-false}
use Rattle.base.specs.Pick.{pick}
use Rattle.base.proofs.Steps.{or_no, true_or_false, cond_all}
use Rattle.base.proofs.Stands.{stands_in, stands_at}
use Rattle.base.proofs.Rows.{entry_at_lem}
use Rattle.base.proofs.Numbers.{read_number}
use Rattle.format.specs.Geometry.{file_sectors, directory_entries}
use Rattle.format.specs.Header.{kdmv_header, start_of, directory_entries_of, grains_of}
use Rattle.format.specs.Entries.{entry_at, meaning, in_table, meaning_at, entry_of_grain, grain_entry}
use Rattle.format.specs.Stream.{KeptGrain, kept_grains, kept_sectors}
use Rattle.format.specs.Tail.{kept_entry, has_grains, new_table, new_directory_entry, new_directory_bytes}
use Rattle.format.specs.Close.{closed_image}
use Rattle.format.specs.declared.Header.{Header}
use Rattle.format.specs.declared.Entry.TheVariants.{Absent}
use Rattle.format.proofs.Geometry.{entry_used, directory_room}
use Rattle.format.proofs.Picked.{pick_then, pick_else}
use Rattle.format.proofs.StreamKept.{Ascends}
use Rattle.format.proofs.StreamKept.Ascends.{none, some}
use Rattle.format.proofs.StreamEntries.{entry_other}
use Rattle.format.proofs.TailLengths.{tables_most}
use Rattle.laws.specs.Closed.{closed_directory, closed_header}
use Rattle.laws.proofs.LayoutBack.{sector_told}
use Rattle.laws.proofs.ClosedStart.{Closing, kept_ascends, kept_late, kept_here, tail_stands}
use Rattle.laws.proofs.ClosedTail.{directory_stands, table_stands}
use Rattle.laws.proofs.ClosedHeader.{entries_small}

-- ---- entries of kept grains
-- a directory entry without grains has none
pub no_entry_lem : (l : List KeptGrain) (g : ℕ) → has_grains l (g / 512) ≡ false → kept_entry l g ≡ 0
unfolding has_grains kept_entry
no_entry_lem [] g e = refl
no_entry_lem (k ∷ l) g e =
    let a = or_no (eqb (k.number / 512) (g / 512)) (has_grains l (g / 512)) e in
    entry_other k l g (λ q. eqb-false _ _ a.0 (ap (λ (n : ℕ). n / 512) q)) ∙ no_entry_lem l g a.1

-- an entry is 0, or a sector of the kept part
module _ (s : List ℕ) (h : Header) where
  pub entry_low : {p next : ℕ} {l : List KeptGrain} → Ascends s h p next l → (g : ℕ) → kept_entry l g ≤ file_sectors s
  unfolding kept_entry
  entry_low none g = omega arith
  entry_low (some {k = k} {l = l} e n w a) g =
      cond_all (λ (v : ℕ). v ≤ file_sectors s) (eqb k.number g) k.sector (kept_entry l g) (λ t. omega (arith, w.here))
      (λ f. entry_low a g)

-- ---- what the entries mean
pub none_told : (b : Bool) → meaning b 0 ≡ Absent
unfolding meaning pick
none_told b = refl

in_told : (c : List ℕ) (b : Bool) (k t : ℕ) → 2 ≤ t → in_table c b k (meaning b t) ≡ meaning b (entry_at c t k)
unfolding in_table
in_told c b k t late = rw (sector_told b t late)

absent_told : (c : List ℕ) (b : Bool) (k : ℕ) → in_table c b k (meaning b 0) ≡ Absent
unfolding in_table
absent_told c b k = rw (none_told b)

-- ---- a closed image
module _ (s : List ℕ) (z : Closing s) where
  module _ (d : ℕ) (low : d < directory_entries_of (start_of s)) where
    table_small : new_table (kept_sectors s (start_of s)) (kept_grains s (start_of s)) d < 0x100000000
    table_small =
        omega (
          arith,
          tables_most (kept_grains s (start_of s)) d,
          entries_small (start_of s) z.sizes,
          kept_here s z,
          z.few,
        )

    entry_small : new_directory_entry (kept_sectors s (start_of s)) (kept_grains s (start_of s)) d < 0x100000000
    entry_small =
        cond_all (λ (v : ℕ). v < 0x100000000) (has_grains (kept_grains s (start_of s)) d) _ 0 (λ t. table_small)
        (λ f. omega arith)

    directory_below : d < 128 * (start_of s).directory_sectors
    directory_below =
        let n = directory_entries (start_of s).capacity 512 (start_of s).grain_size in
        let q : directory_entries_of (start_of s) ≡ n = rw z.sizes.table in
        omega (arith, directory_room n, z.sizes.room)

    -- entry d of the directory
    pub directory_entry_lem : entry_at (closed_image s) (closed_directory s) d
        ≡ new_directory_entry (kept_sectors s (start_of s)) (kept_grains s (start_of s)) d
    unfolding new_directory_bytes
    directory_entry_lem =
        read_number 4 _
        (stands_at _ (omega arith)
        (stands_in (directory_stands s (start_of s) _ _ z.started.long (tail_stands s z)) (entry_at_lem _ _ d directory_below)))
        entry_small

    -- entry k of its table
    table_entry_lem : (k : ℕ) → has_grains (kept_grains s (start_of s)) d ≡ true → k < 512
        → entry_at (closed_image s) (new_table (kept_sectors s (start_of s)) (kept_grains s (start_of s)) d) k
        ≡ kept_entry (kept_grains s (start_of s)) (512 * d + k)
    table_entry_lem k there b =
        read_number 4 _
        (stands_at _ (omega arith)
        (stands_in (table_stands s (start_of s) _ _ z.started.long (tail_stands s z) d low there) (entry_at_lem 512 _ k b)))
        (omega (arith, entry_low s (start_of s) (kept_ascends s z) (512 * d + k), z.few))

    -- what a grain of that table has
    through : (b : Bool) (k : ℕ) → k < 512
        → in_table (closed_image s) b k (meaning_at (closed_image s) b (closed_directory s) d)
        ≡ meaning b (kept_entry (kept_grains s (start_of s)) (512 * d + k))
    through b k l =
        let q : (512 * d + k) / 512 ≡ d = omega arith in
        rw directory_entry_lem
        (⊎_elim
        (λ t.
        rw (pick_then _ (new_table (kept_sectors s (start_of s)) (kept_grains s (start_of s)) d) 0 t)
        (in_told (closed_image s) b k _ (omega (arith, kept_late s z, z.late)) ∙ rw (table_entry_lem k t l)))
        (λ f.
        rw (
          pick_else _ (new_table (kept_sectors s (start_of s)) (kept_grains s (start_of s)) d) 0 f,
          no_entry_lem (kept_grains s (start_of s)) (512 * d + k) (rw q f),
        )
        (absent_told (closed_image s) b k ∙ sym (none_told b)))
        (true_or_false (has_grains (kept_grains s (start_of s)) d)))

  -- each grain's entry is the sector where it was kept
  pub closed_entry : (g : ℕ) → g < grains_of (start_of s) → grain_entry (closed_image s) (closed_header s) g
      ≡ meaning (closed_header s).one_is_zero (kept_entry (kept_grains s (start_of s)) g)
  unfolding entry_of_grain kdmv_header
  closed_entry g low =
      let u : g / 512 < directory_entries_of (start_of s) =
      entry_used (start_of s).capacity (start_of s).grain_size (omega (arith, z.sizes.low)) 512 (omega arith) g low in
      let q : 512 * (g / 512) + g % 512 ≡ g = omega arith in
      rw q at (through (g / 512) u (closed_header s).one_is_zero (g % 512) (omega arith))
