-- What is read from a layout is what was written: entries, grains, the map.
use Prim.Native.Nat.{ℕ, ◌+◌, ◌*◌, ◌/◌, ◌≤◌, ◌<◌}
use mathlib.Core.Path.{◌≡◌, refl, ap, ◌∙◌}
use mathlib.Core.Bool.{Bool, true, false}
use mathlib.Core.List.{List}
use native.Mathlib.Omega.{arith}
use native.Mathlib.Nat.{mul_assoc, div-add-mod, mul_left_comm}
use lib.Dec.{lit≤}
use lib.Seq.{get_or-drop}
use borrow.Author.Tests.{lt-ltb, ne_eqb}
use Rattle.base.specs.Pick.{pick}
use Rattle.base.specs.Numbers.{le_at, le_bytes}
use Rattle.base.proofs.Stands.{Stands, stands_in, stands_at}
use Rattle.base.proofs.Numbers.{read_number}
use Rattle.base.proofs.Rows.{rows_at, entry_at_lem}
use Rattle.format.specs.Geometry.{grains}
use Rattle.format.specs.Entries.{entry_at, meaning, in_table, entry_of_grain, grain_entry}
use Rattle.format.specs.Grains.{Grain, absent, zeroed, stored, Map, grain_from, bytes_of, entry_for, Whole}
use Rattle.format.specs.Layout.{Fits, head_sectors, sectors_per_table, table_count, tables_at, sector_of, directory_entry}
use Rattle.format.specs.Layout.{table_entry}
use Rattle.format.specs.Layout.{directory_bytes, table_bytes, grain_bytes, layout_as}
use Rattle.format.specs.Collapse.{map_of}
use Rattle.format.specs.declared.Kind.{Kind}
use Rattle.format.specs.declared.Kind.TheVariants.{Kdmv, Cowd}
use Rattle.format.specs.declared.Entry.{Entry}
use Rattle.format.specs.declared.Entry.TheVariants.{Absent, Zero, Sector}
use Rattle.format.proofs.Picked.{pick_then}
use Rattle.format.proofs.Grains.{clip_same, clip_length, whole_length, entry_small, stored_length}
use Rattle.laws.specs.MovedImages.{Held}
use Rattle.laws.proofs.LayoutNumbers.{Sizes, table_of, entry_below, directory_below, tables_late, sector_late}
use Rattle.laws.proofs.LayoutNumbers.{table_small, sector_small}
use Rattle.laws.proofs.LayoutParts.{directory_stands, tables_stand, grains_stand}
use Rattle.laws.proofs.LayoutHeader.{one_is_zero, laid_header, header_laid}

-- ---- what an entry means
-- the entry of a grain that stands at sector v, if it is stored
unfoldable pub entry_told : Grain → ℕ → Entry
entry_told absent v = Absent
entry_told zeroed v = Zero
entry_told (stored b) v = Sector v

pub sector_told : (b : Bool) (e : ℕ) → 2 ≤ e → meaning b e ≡ Sector e
unfolding meaning pick
sector_told true e h = rw (ne_eqb e 0 (omega arith), ne_eqb e 1 (omega arith))
sector_told false e h = rw (ne_eqb e 0 (omega arith))

entry_told_lem : (kind : Kind) (a : Grain) (v : ℕ) → Held kind a → 2 ≤ v → meaning (one_is_zero kind) (entry_for a v)
    ≡ entry_told a v
unfolding meaning entry_for entry_told pick
entry_told_lem Kdmv absent v w h = refl
entry_told_lem Kdmv zeroed v w h = refl
entry_told_lem Cowd absent v w h = refl
entry_told_lem Cowd zeroed v w h = absurd w
entry_told_lem kind (stored b) v w h = sector_told (one_is_zero kind) v h

-- tables of k sectors, one after the other from `first` on, are one run of entries: for any number of entries per table
module _ (s : List ℕ) (b : Bool) (at first k n : ℕ) (late : 2 ≤ first)
    (named : (d : ℕ) → d < n → entry_at s at d ≡ first + k * d)
  where
    pub flat_entry : (g : ℕ) → g / (128 * k) < n
        → entry_of_grain s b (128 * k) at g ≡ meaning b (le_at s (512 * first + 4 * g) 4)
    unfolding entry_of_grain in_table
    flat_entry g h =
        let q = g / (128 * k) in
        rw (named q h, sector_told b (first + k * q) (omega arith))
        (ap (λ (p : ℕ). meaning b (le_at s p 4)) (omega (arith, rw mul_assoc at (div-add-mod g (128 * k)))))

-- a grain, by its entry
grain_told : (s : List ℕ) (c size g v : ℕ) (a : Grain) → Whole c size g a → Stands s (512 * v) (bytes_of a)
    → grain_from s c size g (entry_told a v) ≡ a
unfolding grain_from entry_told bytes_of
grain_told s c size g v absent w h = refl
grain_told s c size g v zeroed w h = refl
grain_told s c size g v (stored b) w h =
    ap stored (clip_same c size g _ b (λ i l. get_or-drop (512 * v) s i 0 ∙ h.same i (rw (← w, clip_length c size g b) l)) ∙ w)

-- ---- a layout
module _ (kind : Kind) {c size : ℕ} (z : Sizes c size) (m : Map) where
  pub table_stands : (d : ℕ) → d < table_count kind c size
      → Stands (layout_as kind c size m) (512 * head_sectors kind + 4 * d)
      (le_bytes 4 (tables_at kind c size + sectors_per_table kind * d))
  unfolding directory_bytes
  table_stands d h =
      let e : directory_entry kind c size d ≡ tables_at kind c size + sectors_per_table kind * d =
      pick_then _ _ _ (lt-ltb d (table_count kind c size) h) in
      stands_at _ (omega arith)
      (stands_in (directory_stands kind z m)
      (rw e at (entry_at_lem _ (directory_entry kind c size) d (directory_below kind z d h))))

  pub table_read : (d : ℕ) → d < table_count kind c size
      → entry_at (layout_as kind c size m) (head_sectors kind) d ≡ tables_at kind c size + sectors_per_table kind * d
  table_read d h = read_number 4 _ (table_stands d h) (table_small kind z d h)

  pub entry_stands : (g : ℕ) → g < grains c size
      → Stands (layout_as kind c size m) (512 * tables_at kind c size + 4 * g)
      (le_bytes 4 (entry_for (m g) (sector_of kind c size m g)))
  unfolding table_bytes
  entry_stands g h =
      let e : table_entry kind c size m g ≡ entry_for (m g) (sector_of kind c size m g) =
      pick_then _ _ _ (lt-ltb g (grains c size) h) in
      stands_at _ (omega arith)
      (stands_in (tables_stand kind z m) (rw e at (entry_at_lem _ (table_entry kind c size m) g (entry_below kind z g h))))

  pub entry_read : (g : ℕ) → g < grains c size → Held kind (m g)
      → grain_entry (layout_as kind c size m) (laid_header kind c size) g ≡ entry_told (m g) (sector_of kind c size m g)
  entry_read g h w =
      flat_entry (layout_as kind c size m) (one_is_zero kind) (head_sectors kind) (tables_at kind c size)
      (sectors_per_table kind)
      (table_count kind c size) (tables_late kind z) table_read g (table_of kind z g h)
      ∙ ap (meaning (one_is_zero kind))
      (read_number 4 _ (entry_stands g h)
      (entry_small (m g) _ _ (lit≤ tt) (sector_small kind z m g (omega arith))))
      ∙ entry_told_lem kind (m g) (sector_of kind c size m g) w (sector_late kind z m g)

  module _ (f : Fits c size m) where
    pub grain_stands : (g : ℕ) → g < grains c size
        → Stands (layout_as kind c size m) (512 * sector_of kind c size m g) (bytes_of (m g))
    unfolding grain_bytes sector_of
    grain_stands g h =
        let long = stored_length size m g (λ k b. whole_length c size k (m k) (f k (omega arith))) in
        stands_at _ (rw (long, mul_left_comm) (omega arith))
        (stands_in (grains_stand kind z m) (rows_at (grains c size) (λ k. bytes_of (m k)) g h))

    -- the map of a layout is the one that it was written from
    pub map_read : (g : ℕ) → g < grains c size → Held kind (m g) → map_of (layout_as kind c size m) g ≡ m g
    map_read g h w =
        rw (header_laid kind z m, entry_read g h w)
        (grain_told (layout_as kind c size m) c size g (sector_of kind c size m g) (m g) (f g h) (grain_stands g h))
