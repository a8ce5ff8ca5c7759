-- What the check of an image leaves known, for calls on accepted images.
use Rattle.std.specs.Prelude.{◌≡◌, List, ℕ}
use Rattle.format.specs.Header.{header_of}
use Rattle.format.specs.Judged.{Filed}
use Rattle.format.specs.declared.Header.{Header}
use Rattle.std.specs.Prelude.{Result, Ok, Err}
use Rattle.format.specs.declared.Shape.{Shape}
use Rattle.format.specs.declared.Refusal.{Refusal}

-- the header of an image that the check accepts, or why it is refused
unfoldable pub accepted_header : Result Shape Refusal → Header → Result Header Refusal
accepted_header (Err r) h = Err r
accepted_header (Ok sizes) h = Ok h

-- what an accepted image's header is, and what the check found
pub record Checked (s : List ℕ) (h : Header) : Type 0 where
  pub is : h ≡ header_of s
  pub filed : Filed s h
