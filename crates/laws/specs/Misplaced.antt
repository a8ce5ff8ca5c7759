-- Refusal 8 part by part, each rule of document 01 on its own, whatever the others say; and the place that request A8 gives it.
use Rattle.std.specs.Prelude.{ℕ, ◌+◌, ◌<◌, ◌≡◌, List}
use Rattle.format.specs.Geometry.{file_sectors}
use Rattle.format.specs.Header.{directory_entries_of, judge}
use Rattle.format.specs.Entries.{meaning_at}
use Rattle.format.specs.Answers.{part_number}
use Rattle.format.specs.declared.Header.{Header}
use Rattle.format.specs.declared.Entry.TheVariants.{Sector}
use Rattle.format.specs.declared.MisplacedPart.{MisplacedPart}
use Rattle.format.specs.declared.MisplacedPart.TheVariants.{Descriptor, Directory, RedundantDirectory}
use Rattle.format.specs.declared.MisplacedPart.TheVariants.{PrimaryTable, RedundantTable}
use Rattle.std.specs.Prelude.{Ok}

-- one descriptor number zero and one not, or the descriptor past F
pub data DescriptorMisplaced (s : List ℕ) (h : Header) : Type 0 where
  sector_zero : h.descriptor ≡ 0 → (h.descriptor_sectors ≡ 0 → ⊥) → DescriptorMisplaced s h
  sectors_zero : (h.descriptor ≡ 0 → ⊥) → h.descriptor_sectors ≡ 0 → DescriptorMisplaced s h
  past : file_sectors s < h.descriptor + h.descriptor_sectors → DescriptorMisplaced s h

-- directory sector 0, or the directory past F
pub data DirectoryMisplaced (s : List ℕ) (h : Header) : Type 0 where
  sector_zero : h.directory ≡ 0 → DirectoryMisplaced s h
  past : file_sectors s < h.directory + h.directory_sectors → DirectoryMisplaced s h

-- a table past F that an entry in use of the directory at a sector names
pub record TableMisplaced (s : List ℕ) (h : Header) (directory : ℕ) : Type 0 where
  pub entry : ℕ
  pub used : entry < directory_entries_of h
  pub table : ℕ
  pub names : meaning_at s h.one_is_zero directory entry ≡ Sector table
  pub past : file_sectors s < table + h.table_sectors

-- a part applies: of a redundant directory and its tables, where there is one
abbrev pub Applies : List ℕ → Header → MisplacedPart → Type 0
Applies s h Descriptor = DescriptorMisplaced s h
Applies s h Directory = DirectoryMisplaced s h
Applies s h RedundantDirectory = (h.redundant ≡ 0 → ⊥) × (file_sectors s < h.redundant + h.directory_sectors)
Applies s h PrimaryTable = TableMisplaced s h h.directory
Applies s h RedundantTable = (h.redundant ≡ 0 → ⊥) × TableMisplaced s h h.redundant

-- 1 to 7 let the header through, the part with this number applies, and none with a lower one does
pub record LowestPart (s : List ℕ) (place : ℕ) : Type 0 where
  pub header : Header
  pub judged : judge s ≡ Ok header
  pub part : MisplacedPart
  pub is : part_number part ≡ place
  pub applies : Applies s header part
  pub lowest : (lower : MisplacedPart) → part_number lower < place → Applies s header lower → ⊥
