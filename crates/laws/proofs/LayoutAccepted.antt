-- A layout is accepted: its areas lie in the file one after the other, and its header keeps every rule.
use Prim.Native.Nat.{ℕ, suc, ◌+◌, ◌*◌, ◌<◌}
use mathlib.Core.Path.{◌≡◌, refl}
use mathlib.Core.Bool.{false≢true}
use mathlib.Core.List.{List, [], ◌∷◌}
use native.Mathlib.Omega.{arith}
use native.Mathlib.Nat.{mul-div_right, add_assoc, mul-suc}
use lib.Dec.{lit<}
use Rattle.base.specs.Pick.{pick}
use Rattle.format.specs.Geometry.{file_sectors, grains, directory_sectors}
use Rattle.format.specs.Entries.{meaning_at, grain_sectors}
use Rattle.format.specs.Areas.{Area, area, if_there, named, primary_tables, redundant_tables, grain_area, grain_areas, areas}
use Rattle.format.specs.Accepted.{AreaRules, AcceptedKdmv, Accepted}
use Rattle.format.specs.Accepted.Accepted.{kdmv, cowd}
use Rattle.format.specs.Grains.{Grain, absent, zeroed, stored, Map, one_if_stored, stored_below}
use Rattle.format.specs.Layout.{Fits, head_sectors, sectors_per_table, table_count, tables_at, tables_end, sector_v, sector_of}
use Rattle.format.specs.Layout.{sectors_laid, layout_as, layout_of}
use Rattle.format.specs.declared.Kind.{Kind}
use Rattle.format.specs.declared.Kind.TheVariants.{Kdmv, Cowd}
use Rattle.format.proofs.Inside.{each_in}
use Rattle.format.proofs.Lengths.{few, grains_late, next_sector}
use Rattle.laws.specs.Layers.{Layer}
use Rattle.laws.specs.MovedImages.{Held}
use Rattle.laws.proofs.AcceptedImage.{accepted_complete}
use Rattle.laws.proofs.LayoutNumbers.{Sizes, some_size, tables_late}
use Rattle.laws.proofs.LayoutParts.{layout_length_lem}
use Rattle.laws.proofs.LayoutHeader.{one_is_zero, laid_header, layout_rules, kdmv_laid, cowd_rules_lem, cowd_laid_lem}
use Rattle.laws.proofs.LayoutHeader.{header_laid}
use Rattle.laws.proofs.LayoutBack.{entry_told, sector_told, table_read, entry_read}
use Rattle.laws.proofs.LayoutBetween.{Between, between_one, between_wide, between_append, between_rows, between_in}
use Rattle.laws.proofs.LayoutBetween.{between_apart}

-- an entry's area ends where the next grain's would begin
named_grain : (sectors : ℕ → ℕ) (k : ℕ) → ((e : ℕ) → sectors e ≡ k) → (a : Grain) (v : ℕ)
    → Between v (named sectors (entry_told a v)) (v + one_if_stored a * k)
unfolding Between named entry_told one_if_stored
named_grain sectors k all absent v = omega arith
named_grain sectors k all zeroed v = omega arith
named_grain sectors k all (stored b) v = rw (all v) (omega arith, omega arith)

module _ (kind : Kind) {c size : ℕ} (z : Sizes c size) (m : Map) where
  table_between_lem : (d : ℕ) → d < table_count kind c size
      → Between (tables_at kind c size + sectors_per_table kind * d)
      (named (λ e. sectors_per_table kind) (meaning_at (layout_as kind c size m) (one_is_zero kind) (head_sectors kind) d))
      (tables_at kind c size + sectors_per_table kind * suc d)
  unfolding named
  table_between_lem d h =
      rw (
        table_read kind z m d h,
        sector_told (one_is_zero kind) (tables_at kind c size + sectors_per_table kind * d) (omega (arith, tables_late kind z)),
        mul-suc,
        ← add_assoc,
      )
      (between_one _ _ (sectors_per_table kind) (omega arith))

  tables_between : Between (tables_at kind c size) (primary_tables (layout_as kind c size m) (laid_header kind c size))
      (sector_v kind c size)
  unfolding tables_end table_count
  tables_between =
      between_wide _ _ (tables_end kind c size) _ _ (omega arith) (grains_late kind c size (some_size z))
      (between_rows (table_count kind c size) _ (λ d. tables_at kind c size + sectors_per_table kind * d) table_between_lem)

  abbrev heads : List Area
  heads = area 0 (head_sectors kind) ∷ area (head_sectors kind) (directory_sectors (table_count kind c size)) ∷ []

  heads_between : Between 0 heads (tables_at kind c size)
  unfolding Between tables_at
  heads_between = (omega arith, (omega arith, omega arith))

  module _ (w : (g : ℕ) → g < grains c size → Held kind (m g)) where
    grain_between : (g : ℕ) → g < grains c size
        → Between (sector_of kind c size m g) (grain_area (layout_as kind c size m) (laid_header kind c size) g)
        (sector_of kind c size m (suc g))
    unfolding grain_sectors pick
    grain_between g h =
        rw (entry_read kind z m g h (w g h), next_sector kind c size m g)
        (named_grain _ size (λ e. refl) (m g) (sector_of kind c size m g))

    grains_between : Between (sector_v kind c size) (grain_areas (layout_as kind c size m) (laid_header kind c size))
        (sector_of kind c size m (grains c size))
    unfolding sector_of stored_below
    grains_between =
        between_wide _ (sector_of kind c size m 0) _ _ _ (omega arith) (omega arith)
        (between_rows (grains c size) _ (sector_of kind c size m) grain_between)

    -- header, directory, tables, the gap, grains
    all_between : Between 0 (areas (layout_as kind c size m) (laid_header kind c size))
        (sector_of kind c size m (grains c size))
    unfolding areas if_there redundant_tables pick
    all_between =
        between_append heads _ 0 (tables_at kind c size) _ heads_between
        (between_append _ _ _ _ _ tables_between grains_between)

    module _ (f : Fits c size m) where
      pub file_sectors_lem : file_sectors (layout_as kind c size m) ≡ sectors_laid kind c size m
      file_sectors_lem = rw (layout_length_lem kind z m f, mul-div_right _ (lit< {m = 0} {n = 512} tt))

      areas_kept : AreaRules (layout_as kind c size m) (laid_header kind c size)
      unfolding sectors_laid sector_of
      areas_kept =
          record {
            descriptor = (λ q. refl, λ q. refl);
            directory = λ q. let n = few kind in omega (arith, q);
            inside = rw file_sectors_lem (each_in _ _ (between_in _ 0 _ all_between));
            markers = λ t. absurd (false≢true t);
            copies = λ n. absurd (n refl);
            apart = between_apart _ 0 _ all_between;
          }

layout_kdmv : {c size : ℕ} (z : Sizes c size) (m : Map) → ((g : ℕ) → g < grains c size → Held Kdmv (m g)) → Fits c size m
    → AcceptedKdmv (layout_of c size m)
layout_kdmv z m w f = record { rules = layout_rules z m; areas = rw (kdmv_laid z m) (areas_kept Kdmv z m w f) }

pub layout_accepted : (kind : Kind) {c size : ℕ} (z : Sizes c size) (m : Map)
    → ((g : ℕ) → g < grains c size → Held kind (m g)) → Fits c size m → Accepted (layout_as kind c size m)
layout_accepted Kdmv z m w f = let a = layout_kdmv z m w f in kdmv a.rules a.areas
layout_accepted Cowd z m w f = cowd (cowd_rules_lem z m) (rw (cowd_laid_lem z m) (areas_kept Cowd z m w f))

-- so the collapsed image may be collapsed again
pub layout_layer : {c size : ℕ} (z : Sizes c size) (m : Map) → Fits c size m → Layer c size (layout_of c size m)
layout_layer {c} {size} z m f =
    let h = header_laid Kdmv z m in
    record {
      accepted = rw h at (accepted_complete (layout_of c size m) (layout_kdmv z m (λ g l. tt) f));
      collapsible = rw h;
      clean = rw h;
    }
