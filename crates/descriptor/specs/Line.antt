-- What one line says. The line w comes trimmed; `first` is the first virtual sector of the extent that it may be, `end` the
-- place where it ends.
use Rattle.std.specs.Prelude.{ℕ, List, Option, None, Some, Ok, option_map}
use Rattle.std.specs.Option.{ok_or}
use Rattle.base.specs.Pick.{pick}
use Rattle.descriptor.specs.declared.Access.{Access}
use Rattle.descriptor.specs.declared.Line.TheVariants.{Skip, Holds}
use Rattle.descriptor.specs.declared.LineFault.TheVariants.{BadExtent}
use Rattle.descriptor.specs.Words.{hash, empty, begins, word, after_word}
use Rattle.descriptor.specs.Said.{Said}
use Rattle.descriptor.specs.Extents.{access_of, from_sectors}
use Rattle.descriptor.specs.Keys.{key_line}

-- a line that starts with an access is an extent, 34 if it is malformed; any other is key = value
abbrev pub by_access : ℕ → ℕ → List ℕ → Option Access → Said
by_access first end w None = key_line end w
by_access first end w (Some access) = ok_or (option_map Holds (from_sectors first end access (after_word w))) BadExtent

-- empty lines and lines starting with # are skipped
unfoldable pub line_with : ℕ → ℕ → List ℕ → Option Access → Said
line_with first end w access =
    pick (empty w) (Ok Skip) (pick (begins hash w) (Ok Skip) (by_access first end w access))

-- a line whose first word is RW, RDONLY or NOACCESS is an extent
abbrev pub line : ℕ → ℕ → List ℕ → Said
line first end w = line_with first end w (access_of (word w))
