-- An image whose grains stand in ascending order, apart from all else.
use Rattle.std.specs.Prelude.{List, Bool, false, not, ℕ}
use Rattle.base.specs.Pick.{pick}
use Rattle.format.specs.Geometry.{file_sectors}
use Rattle.format.specs.Header.{grains_of}
use Rattle.format.specs.Areas.{Area, meet}
use Rattle.format.specs.declared.Header.{Header}
use Rattle.ascent.specs.Ascend.{no_stretch, ascend, settled, table_rows}
use Rattle.ascent.specs.declared.Stretch.{Stretch}
use Rattle.overlap.specs.InFile.{walked}
use Rattle.overlap.specs.declared.Walk.TheVariants.{Frame}

-- the grains of an image, of a stream with the tables between them
abbrev pub grain_rows : List ℕ → Header → List Area
grain_rows s h =
    table_rows s h.footer h.table_sectors h.one_is_zero h.packed h.grain_size h.entries_per_table
    h.directory (grains_of h)

unfoldable pub grain_stretch : List ℕ → Header → Stretch
grain_stretch s h = settled (ascend (no_stretch (file_sectors s)) (grain_rows s h))

-- their stretch does not fall, and meets no area of the frame
unfoldable pub in_order : List ℕ → Header → Bool
in_order s h = pick (grain_stretch s h).falls false (not (meet (walked s h (Frame (grain_stretch s h)))))
