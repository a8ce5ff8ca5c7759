-- What is read of an image of which only the other side's tables were written: both directories and the good side's tables as
-- they were.
use Prim.Native.Nat.{ℕ, ◌+◌, ◌*◌, ◌/◌, ◌≤◌, ◌<◌}
use mathlib.Core.Path.{◌≡◌, ap}
use mathlib.Core.List.{List}
use native.Mathlib.Omega.{arith}
use lib.ListN.{get_or}
use Rattle.base.specs.Bytes.{SameBytes}
use Rattle.base.proofs.Rows.{rows_same}
use Rattle.base.proofs.SameBytes.{within, number_same}
use Rattle.format.specs.Header.{directory_entries_of}
use Rattle.format.specs.Entries.{entry_at, meaning}
use Rattle.format.specs.Areas.{Area, area, named, header_area, directory_area, redundant_area, primary_tables}
use Rattle.format.specs.Areas.{redundant_tables}
use Rattle.format.specs.Areas.{footer_area, holders, Apart}
use Rattle.format.specs.Mend.{good_entry, other_entry, areas_kept_apart}
use Rattle.format.specs.Judged.{Placed}
use Rattle.format.specs.declared.Header.{Header}
use Rattle.format.specs.declared.Entry.TheVariants.{Sector}
use Rattle.format.proofs.Areas.{holders_append}
use Rattle.format.proofs.FromGood.{redundant_area_lem}
use Rattle.format.proofs.Held.{held_one, held_row, held_named}
use Rattle.format.proofs.MendedApart.{Kept}
use Rattle.format.proofs.Places.{Places, places_kept, redundant_tables_lem}

module _ (s : List ℕ) (g : Header) (m : List ℕ) (p : Placed s g) (two : g.redundant ≡ 0 → ⊥)
    (apart : Apart (areas_kept_apart s g)) (c : Kept s g m) where
  -- areas of which no sector lies in a table of the other side
  abbrev spot : ℕ → ℕ
  spot x =
      holders (header_area g) x + holders (directory_area g) x + holders (redundant_area g) x + holders (primary_tables s g) x
      + holders (footer_area s g) x

  pub kept_at : (i : ℕ) → 1 ≤ spot (i / 512) → get_or m i 0 ≡ get_or s i 0
  kept_at i h = c.kept i (omega (arith, simp holders_append at (apart (i / 512))))

  -- ---- both directories
  module _ (d : ℕ) (l : d < directory_entries_of g) where
    good_directory : entry_at m g.directory d ≡ entry_at s g.directory d
    good_directory =
        number_same m s _ 4
        (λ i a b.
        kept_at i
        (omega (
          arith,
          held_one (area g.directory g.directory_sectors) (i / 512) (omega arith) (omega (arith, p.sound.directory)),
        )))

    other_directory : entry_at m g.redundant d ≡ entry_at s g.redundant d
    other_directory =
        number_same m s _ 4
        (λ i a b.
        kept_at i
        (rw (redundant_area_lem g two)
        (omega (
          arith,
          held_one (area g.redundant g.directory_sectors) (i / 512) (omega arith) (omega (arith, p.sound.directory)),
        ))))

    pub good_entry_lem : good_entry m g d ≡ good_entry s g d
    good_entry_lem = ap (meaning g.one_is_zero) good_directory

    pub other_entry_lem : other_entry m g d ≡ other_entry s g d
    other_entry_lem = ap (meaning g.one_is_zero) other_directory

    -- ---- the tables that they name
    module _ (t : ℕ) (e : good_entry s g d ≡ Sector t) where
      pub good_bytes : SameBytes m s (512 * t) (4 * g.entries_per_table)
      good_bytes i a h =
          let x = i / 512 in
          let names : ℕ → List Area = λ j. named (λ y. g.table_sectors) (good_entry s g j) in
          let room = p.sound.table in
          let own = held_named (λ y. g.table_sectors) (good_entry s g d) t x e (omega arith) (omega arith) in
          kept_at i (omega (arith, own, held_row names x (directory_entries_of g) d l))

      pub good_table : (k : ℕ) → k < g.entries_per_table → entry_at m t k ≡ entry_at s t k
      good_table k b = number_same m s _ 4 (within m s _ _ _ 4 good_bytes (omega arith) (omega arith))

  pub good_tables : primary_tables m g ≡ primary_tables s g
  good_tables =
      rows_same (directory_entries_of g) _ _ (λ d l. ap (named (λ e. g.table_sectors)) (good_entry_lem d l))

  pub other_tables : redundant_tables m g ≡ redundant_tables s g
  other_tables =
      rw (redundant_tables_lem m g two, redundant_tables_lem s g two)
      (rows_same (directory_entries_of g) _ _ (λ d l. ap (named (λ e. g.table_sectors)) (other_entry_lem d l)))

  pub places_changed : Places m g
  places_changed =
      let q = places_kept s g p.kept in
      record {
        both = q.both;
        descriptor = rw c.long q.descriptor;
        some = q.some;
        directory = rw c.long q.directory;
        redundant = rw c.long q.redundant;
        tables = rw (c.long, good_tables) q.tables;
        copies = rw (c.long, other_tables) q.copies;
      }
