-- The descriptor's text and its lines. A place counts bytes of the text from 0.
use Rattle.std.specs.Prelude.{ℕ, ◌+◌, ◌-◌, List, [], ◌∷◌, eqb, length, take, drop}
use Rattle.base.specs.Pick.{pick}
use Rattle.descriptor.specs.declared.Stop.TheVariants.{Byte}
use Rattle.descriptor.specs.Words.{before, rest, trim_end}

-- the text ends at the first zero byte
abbrev pub text_of : List ℕ → List ℕ
text_of s = before (Byte 0) s

-- the first zero byte, if there is one, and all bytes after it
abbrev pub tail_of : List ℕ → List ℕ
tail_of s = rest (Byte 0) s

-- a line: the bytes of the text from a place up to another
pub record Span : Type 0 where
  pub from : ℕ
  pub to : ℕ

-- lines end at 0a or with the text: a line began at `from`, and t is what is left of the text, from `at` on (by `let` antt
-- computes only the one that is picked)
unfoldable pub lines_from : ℕ → ℕ → List ℕ → List Span
lines_from from at [] = record { from = from; to = at } ∷ []
lines_from from at (x ∷ t) =
    let ended : List Span = record { from = from; to = at } ∷ lines_from (at + 1) (at + 1) t in
    let longer : List Span = lines_from from (at + 1) t in
    pick (eqb x 0x0a) ended longer

-- the lines of a text, the one after its last 0a too
abbrev pub lines : List ℕ → List Span
lines text = lines_from 0 0 text

-- the bytes of a line
abbrev pub bytes_of : List ℕ → Span → List ℕ
bytes_of text l = take (l.to - l.from) (drop l.from text)

-- the place where a line ends once it is trimmed
abbrev pub end_of : List ℕ → Span → ℕ
end_of text l = l.from + length (trim_end (bytes_of text l))
