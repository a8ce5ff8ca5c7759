-- The part of an image that a source names: where it ends.
use Rattle.std.specs.Prelude.{ℕ, ◌+◌}
use Rattle.format.specs.Source.{source_part}
use Rattle.format.specs.declared.Source.{Source}

abbrev pub part_end : Source → ℕ
part_end source = (source_part source).at + (source_part source).length
