-- What a line says, or why it is refused; and the refusals' numbers and places.
use Rattle.std.specs.Prelude.{ℕ, Option, None, Some, Result, Err}
use Rattle.descriptor.specs.declared.Line.{Line}
use Rattle.descriptor.specs.declared.LineFault.{LineFault}
use Rattle.descriptor.specs.declared.LineFault.TheVariants.{NoForm, BadKey, BadExtent}
use Rattle.descriptor.specs.declared.TextRefusal.{TextRefusal}
use Rattle.descriptor.specs.declared.TextRefusal.TheVariants.{NoFirstLine, ByteAfterZero, InLine, KeyMissing, BadExtents}
use Rattle.descriptor.specs.declared.TextRefusal.TheVariants.{TextTooLong}

abbrev pub Said : Type 0
Said = Result Line LineFault

-- ---- in document 01's numbers
abbrev pub line_number : LineFault → ℕ
line_number NoForm = 32
line_number BadKey = 33
line_number BadExtent = 34

abbrev pub text_number : TextRefusal → ℕ
text_number NoFirstLine = 30
text_number ByteAfterZero = 31
text_number (InLine fault line) = line_number fault
text_number KeyMissing = 33
text_number BadExtents = 35
text_number TextTooLong = 36

-- the place of 32 to 34 is the line, from 1 on; the text as a whole has none
abbrev pub text_place : TextRefusal → ℕ
text_place (InLine fault line) = line
text_place _ = 0
