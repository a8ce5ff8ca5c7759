-- The images that moves take, and what "keeps each sector's kind and bytes" means.
use Rattle.std.specs.Prelude.{ℕ, ◌≡◌, List, false}
use Rattle.format.specs.Header.{header_of}
use Rattle.format.specs.Accepted.{Accepted}
use Rattle.format.specs.Grains.{Grain, absent, zeroed, stored}
use Rattle.format.specs.Source.{source_of}
use Rattle.format.specs.Collapse.{still_open}
use Rattle.format.specs.Moves.{not_taken, not_movable}
use Rattle.format.specs.declared.Kind.{Kind}
use Rattle.format.specs.declared.Kind.TheVariants.{Kdmv, Cowd}
use Rattle.laws.specs.Served.{SameSource}

-- a grain that an image of the kind has an entry for: COWD has none for a zero grain
abbrev pub Held : Kind → Grain → Type 0
Held Kdmv a = Unit
Held Cowd absent = Unit
Held Cowd zeroed = ⊥
Held Cowd (stored b) = Unit

-- the kind that an image moved to a kind came from
abbrev pub opposite : Kind → Kind
opposite Kdmv = Cowd
opposite Cowd = Kdmv

-- an image that a move to the kind takes: it keeps every layout rule, is of the other kind and uncompressed, clean, and has no
-- grain size under 8 and, on the way to COWD, no zero grain
pub record Movable (kind : Kind) (s : List ℕ) : Type 0 where
  pub accepted : Accepted s
  pub taken : not_taken kind (header_of s) ≡ false
  pub clean : still_open (header_of s) ≡ false
  pub held : not_movable kind s (header_of s) ≡ false

-- sector x of one image and of another: the same kind of source and, where it is stored, the same 512 bytes
abbrev pub SameSector : List ℕ → List ℕ → ℕ → Type 0
SameSector s t x = SameSource s t (source_of s (header_of s) x) (source_of t (header_of t) x)
