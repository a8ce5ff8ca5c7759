-- What was judged before sectors are marked, refusals 1 to 9, and the groups of areas that functions mark.
use Rattle.std.specs.Prelude.{ℕ, ◌+◌, ◌^◌, ◌<◌, ◌≡◌, List, [], ◌∷◌, ◌++◌, Bool, true, false, not, ◌&&◌, eqb}
use Rattle.base.specs.Pick.{pick}
use Rattle.format.specs.Geometry.{file_sectors}
use Rattle.format.specs.Areas.{Area, header_area, descriptor_area, directory_area, redundant_area, primary_tables}
use Rattle.format.specs.Areas.{redundant_tables}
use Rattle.format.specs.Areas.{footer_area, last_area, areas, runs_past}
use Rattle.format.specs.declared.Header.{Header}
use Rattle.format.specs.Judged.{Sound}
use Rattle.ascent.specs.Ascend.{span}
use Rattle.ascent.specs.declared.Stretch.{Stretch}
use Rattle.overlap.specs.declared.Walk.{Walk}
use Rattle.overlap.specs.declared.Walk.TheVariants.{All, Frame}

-- the header is judged, and all areas lie in the file
pub record InFile (s : List ℕ) (h : Header) : Type 0 where
  pub sound : Sound h
  pub inside : runs_past (file_sectors s) (areas s h) ≡ false

-- ---- the groups of areas that functions mark
unfoldable pub head_areas : Header → List Area
head_areas h = header_area h ++ descriptor_area h

unfoldable pub directory_areas : Header → List Area
directory_areas h = directory_area h ++ redundant_area h

unfoldable pub front_areas : Header → List Area
front_areas h = head_areas h ++ directory_areas h

-- those of the primary directory not where they stand between grains
unfoldable pub tables_of : List ℕ → Header → Bool → List Area
tables_of s h between = pick between [] (primary_tables s h) ++ redundant_tables s h

unfoldable pub back_areas : List ℕ → Header → List Area
back_areas s h = footer_area s h ++ last_area s h

-- all but grains and what stands between them
unfoldable pub beside_grains : List ℕ → Header → Bool → List Area
beside_grains s h between = front_areas h ++ (tables_of s h between ++ back_areas s h)

-- the frame, and a stretch that has all else: the tables of a stream stand between its grains
unfoldable pub around : List ℕ → Header → Stretch → List Area
around s h stretch = beside_grains s h h.footer ++ (span stretch ∷ [])

unfoldable pub walked : List ℕ → Header → Walk → List Area
walked s h All = areas s h
walked s h (Frame stretch) = around s h stretch

-- ---- what marking them asks
pub record Ends (h : Header) : Type 0 where
  pub descriptor : (not (eqb h.descriptor 0) && not (eqb h.descriptor_sectors 0)) ≡ true → h.descriptor
      + h.descriptor_sectors < 2 ^ 64
  pub directory : h.directory + h.directory_sectors < 2 ^ 64
  pub redundant : not (eqb h.redundant 0) ≡ true → h.redundant + h.directory_sectors < 2 ^ 64
