-- An image that begins as a layout: its header, its directory and its tables are the layout's.
use Prim.Native.Nat.{ℕ, zero, suc, ◌+◌, ◌*◌, ◌-◌, ◌≤◌, ◌<◌}
use mathlib.Core.Path.{◌≡◌, refl, sym, ap, ◌∙◌}
use mathlib.Core.Bool.{true}
use mathlib.Core.List.{List}
use native.Mathlib.Omega.{arith}
use native.Mathlib.Numerals.{add-one}
use lib.ListN.{length}
use borrow.Author.Tests.{ne_eqb, lt-ltb, le-ltb}
use Rattle.base.specs.Pick.{pick}
use Rattle.base.specs.Numbers.{le_at}
use Rattle.base.specs.Bytes.{SameBytes, zeros}
use Rattle.base.proofs.SameBytes.{within, number_same}
use Rattle.base.proofs.Stands.{Stands, stands_at}
use Rattle.format.specs.Geometry.{grains, directory_sectors}
use Rattle.format.specs.Header.{header_of}
use Rattle.format.specs.Entries.{entry_at, meaning, grain_entry}
use Rattle.format.specs.Grains.{Grain, Map, grain_from, one_if_stored, entry_for}
use Rattle.format.specs.Layout.{table_count, tables_at, tables_end, sector_v, sector_of, sectors_laid, directory_bytes}
use Rattle.format.specs.Layout.{table_bytes, gap_bytes, layout_as}
use Rattle.format.specs.declared.Kind.TheVariants.{Kdmv}
use Rattle.format.specs.declared.Entry.TheVariants.{Sector}
use Rattle.format.proofs.Geometry.{directory_room}
use Rattle.format.proofs.Lengths.{header_length, entries_fit, grains_late, next_sector}
use Rattle.layers.specs.TwoLayers.{Readable}
use Rattle.layout.specs.WrittenParts.{entries_end}
use Rattle.layout.proofs.PartSizes.{unused_ends}
use Rattle.laws.proofs.LayoutNumbers.{Sizes, some_size, some_table, tables_late, table_of}
use Rattle.laws.proofs.LayoutParts.{header_stands, directory_stands, tables_stand, gap_stands}
use Rattle.laws.proofs.LayoutHeader.{laid_header, front_laid}
use Rattle.laws.proofs.LayoutBack.{flat_entry, sector_told, table_read}
use Rattle.profile.specs.FormCompared.{entry_meant, next_meant}
use Rattle.profile.proofs.Parts.{zeros_as, zeros_join, unused_stand}

module _ {c size : ℕ} (z : Sizes c size) (m : Map) where
  -- ---- zeros of a layout: after the directory's entries, and after the tables'
  pub directory_unused : Stands (layout_as Kdmv c size m) (512 + 4 * table_count Kdmv c size)
      (zeros (512 * tables_at Kdmv c size - (512 + 4 * table_count Kdmv c size)))
  unfolding directory_bytes tables_at
  directory_unused =
      let n = table_count Kdmv c size in
      let fits = directory_room n in
      zeros_as _ _ (omega arith)
      (unused_stand n (128 * directory_sectors n) (λ d. tables_at Kdmv c size + 4 * d) (directory_stands Kdmv z m)
      (omega arith))

  pub gap_unused : Stands (layout_as Kdmv c size m) (entries_end Kdmv c size)
      (zeros (512 * sector_v Kdmv c size - entries_end Kdmv c size))
  unfolding table_bytes gap_bytes
  gap_unused =
      let ends = unused_ends Kdmv c size (some_size z) in
      let late = grains_late Kdmv c size (some_size z) in
      zeros_join _ _ _
      (unused_stand (grains c size) (128 * (4 * table_count Kdmv c size)) (λ g. entry_for (m g) (sector_of Kdmv c size m g))
      (tables_stand Kdmv z m) (entries_fit Kdmv c size (some_size z)))
      (stands_at _ (sym ends) (gap_stands Kdmv z m)) (omega arith)

  module _ (s : List ℕ) where
    -- ---- the header
    pub header_told : SameBytes s (layout_as Kdmv c size m) 0 512 → 512 ≤ length s → header_of s ≡ laid_header Kdmv c size
    header_told same long =
        front_laid z s _
        (record {
          inside = omega (arith, header_length Kdmv c size (sectors_laid Kdmv c size m));
          same = λ i l.
              same (0 + i) (omega arith) (omega (arith, header_length Kdmv c size (sectors_laid Kdmv c size m)))
              ∙ (header_stands Kdmv z m).same i l;
        })

    -- ---- the directory
    module _ (same : SameBytes s (layout_as Kdmv c size m) 0 (512 + 4 * table_count Kdmv c size)) where
      pub named : (d : ℕ) → d < table_count Kdmv c size → entry_at s 1 d ≡ tables_at Kdmv c size + 4 * d
      named d l =
          number_same s (layout_as Kdmv c size m) (512 * 1 + 4 * d) 4
          (within s (layout_as Kdmv c size m) 0 _ _ 4 same (omega arith) (omega arith))
          ∙ table_read Kdmv z m d l

      pub tables_inside : Readable s (laid_header Kdmv c size) → 512 * tables_end Kdmv c size ≤ length s
      unfolding tables_end table_count
      tables_inside r =
          let d = table_count Kdmv c size - 1 in
          let some = some_table Kdmv z in
          let l : d < table_count Kdmv c size = omega arith in
          let told : meaning true (entry_at s 1 d) ≡ Sector (tables_at Kdmv c size + 4 * d) =
          rw (named d l) (sector_told true _ (omega (arith, tables_late Kdmv z))) in
          omega (arith, r.table d _ l told)

      pub entry_flat : (g : ℕ) → g < grains c size
          → grain_entry s (laid_header Kdmv c size) g ≡ meaning true (le_at s (512 * tables_at Kdmv c size + 4 * g) 4)
      entry_flat g l =
          flat_entry s true 1 (tables_at Kdmv c size) 4 (table_count Kdmv c size) (tables_late Kdmv z) named g
          (table_of Kdmv z g l)

-- ---- an entry of the tables, by the image's own
module _ (s : List ℕ) (c size g : ℕ) where
  entry_told_lem : (e v : ℕ) → entry_for (grain_from s c size g (meaning true e)) v ≡ entry_meant e v
  unfolding meaning grain_from entry_for entry_meant pick
  entry_told_lem zero v = refl
  entry_told_lem (suc zero) v = refl
  entry_told_lem (suc (suc e)) v =
      rw (ne_eqb (suc (suc e)) 0 (omega arith), ne_eqb (suc (suc e)) 1 (omega arith), le-ltb (suc (suc e)) 2 (omega arith))

  next_told : (e v : ℕ) → size ≡ 128 → v + one_if_stored (grain_from s c size g (meaning true e)) * size ≡ next_meant e v
  unfolding meaning grain_from one_if_stored next_meant pick
  next_told zero v q = omega arith
  next_told (suc zero) v q = omega arith
  next_told (suc (suc e)) v q =
      rw (ne_eqb (suc (suc e)) 0 (omega arith), ne_eqb (suc (suc e)) 1 (omega arith), lt-ltb 1 (suc (suc e)) (omega arith))
      (omega arith)

-- what the loop over the tables meets: m is the image's own map
module _ {c size : ℕ} (z : Sizes c size) (m : Map) (s : List ℕ)
    (own : (g : ℕ) → m g ≡ grain_from s c size g (grain_entry s (laid_header Kdmv c size) g))
    (same : SameBytes s (layout_as Kdmv c size m) 0 (512 + 4 * table_count Kdmv c size)) (g : ℕ) (l : g < grains c size) (e : ℕ)
    (read : e ≡ le_at s (512 * tables_at Kdmv c size + 4 * g) 4) where
  grain_is : m g ≡ grain_from s c size g (meaning true e)
  grain_is = own g ∙ ap (grain_from s c size g) (entry_flat z m s same g l ∙ ap (meaning true) (sym read))

  pub entry_is : (v : ℕ) → entry_for (m g) v ≡ entry_meant e v
  entry_is v = rw grain_is (entry_told_lem s c size g e v)

  pub next_is : size ≡ 128 → (v : ℕ) → v ≡ sector_of Kdmv c size m g → next_meant e v ≡ sector_of Kdmv c size m (g + 1)
  next_is q v p =
      sym (rw add-one (next_sector Kdmv c size m g)
      ∙ ap (λ (n : ℕ). n + one_if_stored (m g) * size) (sym p)
      ∙ ap (λ (a : Grain). v + one_if_stored a * size) grain_is
      ∙ next_told s c size g e v q)
