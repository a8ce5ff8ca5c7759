-- The parts joined to the whole image.
use Prim.Native.Nat.{ℕ, ◌+◌, ◌*◌, ◌-◌, ◌≤◌}
use mathlib.Core.Path.{◌≡◌, refl, ap, ◌∙◌}
use mathlib.Core.List.{List, ◌++◌, append_assoc}
use native.Mathlib.Omega.{arith}
use lib.ListN.{length, length-append}
use Rattle.base.specs.Bytes.{over}
use Rattle.base.specs.Rows.{rows, entry_bytes}
use Rattle.base.proofs.Over.{first, more, last, wrote_length, zeros_length}
use Rattle.format.specs.Geometry.{grains}
use Rattle.format.specs.Grains.{Map}
use Rattle.format.specs.Layout.{head_sectors, sectors_per_table, table_count, tables_at, tables_end, sector_v, sector_of}
use Rattle.format.specs.Layout.{sectors_laid}
use Rattle.format.specs.Layout.{header_bytes, directory_bytes, table_bytes, gap_bytes, grain_bytes, layout_as}
use Rattle.format.specs.declared.Kind.{Kind}
use Rattle.format.proofs.Lengths.{header_length, directory_length, gap_length, entries_fit, grains_late}
use Rattle.layout.specs.WrittenParts.{entries_end, unused, with_front, entry_in, bytes_in, with_grains}
use Rattle.base.proofs.OverApart.{over_swap}
use Rattle.layout.proofs.EntryRuns.{entries_long}
use Rattle.layout.proofs.Padded.{entries_padded}
use Rattle.layout.proofs.PartSizes.{unused_ends, entries_before}

regroup : (h d e x y b t : List ℕ) → t ≡ e ++ x → h ++ d ++ e ++ (x ++ y) ++ b ≡ h ++ d ++ t ++ y ++ b
regroup h d e x y b t q = rw q (simp append_assoc)

module _ (kind : Kind) (c z : ℕ) where
  directory_long : 512 * head_sectors kind + length (directory_bytes kind c z) ≡ 512 * tables_at kind c z
  unfolding tables_at
  directory_long = omega (arith, directory_length kind c z)

  module _ (some : 1 ≤ z) (m : Map) where
    -- the tables: the entries in use, and zeros
    table_is : table_bytes kind c z m ≡ entry_bytes (grains c z) (entry_in (sector_v kind c z) z m) ++ unused kind c z
    unfolding table_bytes unused sector_of
    table_is =
        entries_padded (grains c z) (entry_in (sector_v kind c z) z m) (128 * (sectors_per_table kind * table_count kind c z))
        (entries_fit kind c z some)

    abbrev E : List ℕ
    E = entry_bytes (grains c z) (entry_in (sector_v kind c z) z m)

    abbrev H : List ℕ
    H = header_bytes kind c z (sectors_laid kind c z m)

    layout_is : H ++ directory_bytes kind c z ++ E ++ (unused kind c z ++ gap_bytes kind c z) ++ rows (grains c z) (bytes_in m)
        ≡ layout_as kind c z m
    unfolding layout_as rows grain_bytes
    layout_is = regroup H (directory_bytes kind c z) E (unused kind c z) (gap_bytes kind c z) (grain_bytes c z m) _ table_is

    unused_long : entries_end kind c z + length (unused kind c z) ≡ 512 * tables_end kind c z
    unfolding unused
    unused_long =
        rw (zeros_length (4 * (128 * (sectors_per_table kind * table_count kind c z) - grains c z))) (unused_ends kind c z some)

    gap_long : 512 * tables_end kind c z + length (gap_bytes kind c z) ≡ 512 * sector_v kind c z
    gap_long = omega (arith, gap_length kind c z, grains_late kind c z some)

    -- unused entries and the gap are written before the entries in use, and the grains last
    pub image_join : (d x y : List ℕ) → y ≡ with_grains (512 * tables_at kind c z) (sector_v kind c z) z m (grains c z) x
        → x ≡ with_front kind c z (sectors_laid kind c z m) d
        → 512 * sector_v kind c z ≤ length d
        → y ≡ over d 0 (layout_as kind c z m)
    image_join d x y q p h =
        let Z = unused kind c z ++ gap_bytes kind c z in
        let e : length E ≡ 4 * grains c z = entries_long (entry_in (sector_v kind c z) z m) (grains c z) in
        let n : entries_end kind c z + length Z ≡ 512 * sector_v kind c z =
        rw length-append (omega (arith, unused_long, gap_long)) in
        let w₁ = first d 0 (over d 0 H) H (512 * head_sectors kind) refl (omega arith)
        (omega (arith, header_length kind c z (sectors_laid kind c z m))) in
        let f = over (over d 0 H) (512 * head_sectors kind) (directory_bytes kind c z) in
        let w₂ = more _ _ f (directory_bytes kind c z) _ _ _ (512 * tables_at kind c z) refl w₁ directory_long in
        let l : length f ≡ length d = wrote_length w₂ (omega (arith, entries_before kind c z some)) in
        let u = first f (entries_end kind c z) (over f (entries_end kind c z) (unused kind c z)) (unused kind c z) _ refl
        (omega arith) unused_long in
        let zeros-in : x ≡ over f (entries_end kind c z) Z = p ∙ last _ _ _ _ _ _ _ refl u in
        let swap : over x (512 * tables_at kind c z) E ≡ over (over f (512 * tables_at kind c z) E) (entries_end kind c z) Z =
        rw zeros-in (over_swap f E Z _ _ (omega arith) (omega arith)) in
        let w₃ = more _ _ (over f (512 * tables_at kind c z) E) E _ _ _ (entries_end kind c z) refl w₂ (omega arith) in
        let w₄ = more _ _ (over x (512 * tables_at kind c z) E) Z _ _ _ (512 * sector_v kind c z) swap w₃ n in
        last _ _ _ _ _ _ _ q w₄ ∙ ap (over d 0) layout_is
