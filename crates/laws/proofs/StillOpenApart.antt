-- Where no sector lies in two areas, the sectors of header and footer are none that directories, tables or markers are read in.
use Prim.Native.Nat.{ℕ, ◌+◌, ◌≤◌}
use mathlib.Core.Path.{◌≡◌}
use mathlib.Core.List.{List, [], ◌∷◌}
use native.Mathlib.Omega.{arith}
use borrow.Author.Tests.{ne_eqb}
use Rattle.base.specs.Pick.{pick}
use Rattle.format.specs.Header.{grains_of, directory_entries_of}
use Rattle.format.specs.Entries.{meaning_at, grain_entry, grain_sectors}
use Rattle.format.specs.Areas.{Area, area, if_there, named, header_area, directory_area, redundant_area, table_areas}
use Rattle.format.specs.Areas.{primary_tables}
use Rattle.format.specs.Areas.{redundant_tables, footer_area, grain_area, grain_areas, areas, holders}
use Rattle.format.specs.Accepted.{AreaRules}
use Rattle.format.specs.Judged.{Sound}
use Rattle.format.specs.declared.Header.{Header}
use Rattle.format.proofs.Areas.{holds_in, holders_append}
use Rattle.format.proofs.Entries.{some_sectors}
use Rattle.format.proofs.Held.{held_row, held_named}
use Rattle.format.proofs.Places.{redundant_tables_lem}
use Rattle.laws.proofs.StillOpenRead.{ClearTables, ClearImage}

module _ (s : List ℕ) (h : Header) (sound : Sound h) (rules : AreaRules s h) (spot : ℕ → Type 0)
    (held : (x : ℕ) → spot x → 1 ≤ holders (header_area h) x + holders (footer_area s h) x) where
  abbrev readers : ℕ → ℕ
  readers x =
      holders (directory_area h) x + holders (redundant_area h) x + holders (primary_tables s h) x
      + holders (redundant_tables s h) x
      + holders (grain_areas s h) x

  one_holder : (x : ℕ) → holders (header_area h) x + holders (footer_area s h) x + readers x ≤ 1
  unfolding areas holders
  one_holder x = omega (arith, simp holders_append at (rules.apart x))

  -- so a sector of header or footer lies in none of these
  none_reads : (x : ℕ) → spot x → readers x ≡ 0
  none_reads x z = omega (arith, one_holder x, held x z)

  -- a directory whose area and tables are among them
  tables_apart : (directory : ℕ)
      → ((x : ℕ) → holders (area directory h.directory_sectors ∷ []) x
      + holders (table_areas s h.one_is_zero h.table_sectors directory (directory_entries_of h)) x
      ≤ readers x)
      → ClearTables spot s h directory
  unfolding holders
  tables_apart directory among = record {
    own = λ x l b z. omega (
      arith,
      among x,
      none_reads x z,
      holds_in (area directory h.directory_sectors) x l b,
    );
    tables = λ d u l e x m b z.
        let names : ℕ → List Area = λ i. named (λ j. h.table_sectors) (meaning_at s h.one_is_zero directory i) in
        let row = held_row names x (directory_entries_of h) d l in
        omega (arith, among x, none_reads x z, row, held_named (λ j. h.table_sectors) _ u x e m b);
  }

  redundant_among : (h.redundant ≡ 0 → ⊥) → (x : ℕ)
      → holders (redundant_area h) x ≡ holders (area h.redundant h.directory_sectors ∷ []) x
  unfolding if_there pick
  redundant_among two x = rw (ne_eqb h.redundant 0 two)

  pub clear_apart : ClearImage spot s h
  clear_apart = record {
    primary = tables_apart h.directory (λ x. omega arith);
    copies = λ two.
        tables_apart h.redundant
        (λ x. rw (← redundant_among two x, ← redundant_tables_lem s h two) (omega arith));
    markers = λ g e l q x m b z.
        let some = some_sectors s h.packed h.grain_size e sound.sizes.low in
        let row = held_row (grain_area s h) x (grains_of h) g l in
        omega (
          arith,
          none_reads x z,
          row,
          held_named (grain_sectors s h.packed h.grain_size) (grain_entry s h g) e x q m (omega arith),
        );
  }
