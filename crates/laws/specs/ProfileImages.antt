-- The images that meet the lab profile, and where two files first differ. Request A11.
use Rattle.std.specs.Prelude.{ℕ, ◌*◌, ◌%◌, ◌≤◌, ◌<◌, ◌≡◌, List, false, length, get_or}
use Rattle.base.specs.Bytes.{SameBytes}
use Rattle.format.specs.Geometry.{file_sectors}
use Rattle.format.specs.Header.{header_of}
use Rattle.format.specs.Accepted.{AcceptedKdmv}
use Rattle.format.specs.Collapse.{normal_form}
use Rattle.format.specs.Profile.{profile}
use Rattle.format.specs.declared.Refusal.TheVariants.{NotNormal}
use Rattle.std.specs.Prelude.{Err}

-- an image that meets the profile: it keeps every layout rule of KDMV, is uncompressed and clean, has the two sizes, and is its
-- own normal form
pub record Meets (s : List ℕ) : Type 0 where
  pub accepted : AcceptedKdmv s
  pub uncompressed : (header_of s).packed ≡ false
  pub clean : (header_of s).dirty ≡ 0
  pub grain_size : (header_of s).grain_size ≡ 128
  pub capacity : (header_of s).capacity % 128 ≡ 0
  pub form : s ≡ normal_form s

-- two files differ at n: in a byte that both have, or where one of them ends and the other does not
pub data DifferAt (a b : List ℕ) (n : ℕ) : Type 0 where
  byte : n < length a → n < length b → (get_or a n 0 ≡ get_or b n 0 → ⊥) → DifferAt a b n
  first_ends : n ≡ length a → n < length b → DifferAt a b n
  second_ends : n ≡ length b → n < length a → DifferAt a b n

-- and nowhere below it
pub record FirstAt (a b : List ℕ) (n : ℕ) : Type 0 where
  pub alike : SameBytes a b 0 n
  pub differ : DifferAt a b n

-- refused 42, with a place in the bytes from 512 x F on
abbrev pub LatePlace : List ℕ → Type 0
LatePlace s = (n : ℕ) × (profile s ≡ Err (NotNormal n)) × (512 * file_sectors s ≤ n)
