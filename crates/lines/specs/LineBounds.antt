-- Bounds that the code needs so that nothing wraps and no index runs past its array. No answer is defined by them.
use Rattle.std.specs.Prelude.{ℕ, ◌≤◌, List, length, ⊤}
use Rattle.descriptor.specs.declared.Line.{Line}
use Rattle.descriptor.specs.declared.Line.TheVariants.{Holds}

-- the bytes w of a line end at the place `end` of a text
pub record Within (end : ℕ) (w : List ℕ) : Type 0 where
  pub inside : length w ≤ end
  pub small : end ≤ 65536

-- what a line says: an extent's sectors are bounded
abbrev pub Bounded : Line → Type 0
Bounded (Holds e) = e.sectors ≤ 0x80000000
Bounded _ = ⊤
