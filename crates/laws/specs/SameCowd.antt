-- What two COWD files agree in that the move to KDMV answers alike: header, the directory's entries in use, and the tables that
-- these name.
use Rattle.std.specs.Prelude.{ℕ, ◌+◌, ◌*◌, ◌≤◌, ◌≡◌, List, length}
use Rattle.base.specs.Bytes.{SameBytes}
use Rattle.base.specs.Rows.{first_of}
use Rattle.format.specs.Geometry.{file_sectors}
use Rattle.format.specs.Header.{header_of, directory_entries_of}
use Rattle.format.specs.Areas.{primary_tables}
use Rattle.format.specs.Layout.{layout_parts}
use Rattle.format.specs.Collapse.{map_of}
use Rattle.format.specs.declared.Header.{Header}
use Rattle.format.specs.declared.Kind.TheVariants.{Kdmv}
use Rattle.laws.specs.CowdFile.{CowdFile}
use Rattle.laws.specs.SameFrame.{SameAreas}

-- where the directory runs past the file the move refuses 8, whatever stands there
abbrev pub DirectoryInFile : List ℕ → Header → Type 0
DirectoryInFile s h = h.directory + h.directory_sectors ≤ file_sectors s

pub record SameCowd (s t : List ℕ) : Type 0 where
  pub file : CowdFile s
  pub long : length s ≡ length t
  pub header : SameBytes s t 0 2048
  pub directory : DirectoryInFile s (header_of s)
      → SameBytes s t (512 * (header_of s).directory) (4 * directory_entries_of (header_of s))
  pub tables : DirectoryInFile s (header_of s) → SameAreas s t (primary_tables s (header_of s))

-- what the move writes before the grains: header, directory, tables and gap
abbrev pub written_front : List ℕ → List ℕ
written_front s = first_of (layout_parts Kdmv (header_of s).capacity (header_of s).grain_size (map_of s)) 4
