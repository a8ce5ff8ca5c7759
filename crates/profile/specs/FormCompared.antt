-- What is known of an image while it is compared with its normal form.
use Rattle.std.specs.Prelude.{ℕ, ◌+◌, ◌%◌, ◌≤◌, ◌≡◌, List, false, ltb, length}
use Rattle.base.specs.Pick.{pick}
use Rattle.base.specs.Bytes.{SameBytes}
use Rattle.format.specs.Check.{check}
use Rattle.format.specs.Grains.{grain_map}
use Rattle.format.specs.Collapse.{not_collapsible, still_open, laid_out}
use Rattle.format.specs.Layout.{sectors_laid}
use Rattle.format.specs.Profile.{profile_form}
use Rattle.format.specs.declared.Kind.TheVariants.{Kdmv}
use Rattle.format.specs.declared.Header.{Header}
use Rattle.accept.specs.AcceptedHeader.{Checked}
use Rattle.std.specs.Prelude.{Result}
use Rattle.format.specs.declared.Shape.{Shape}
use Rattle.format.specs.declared.Refusal.{Refusal}
use Rattle.format.specs.AnswerParts.{accepted_as}

-- the image's normal form, and what comparing both answers
abbrev pub form_of : List ℕ → Header → List ℕ
form_of s h = laid_out h (grain_map s h)

abbrev pub compared : List ℕ → Header → Result Shape Refusal
compared s h = profile_form h s (form_of s h)

-- ---- an entry of the normal form, by the image's own entry e, where the next stored grain stands at sector `next`
unfoldable pub entry_meant : ℕ → ℕ → ℕ
entry_meant e next = pick (ltb e 2) e next

-- and where the stored grain after it stands
unfoldable pub next_meant : ℕ → ℕ → ℕ
next_meant e next = pick (ltb 1 e) (next + 128) next

-- ---- the image
pub record Taken (s : List ℕ) (h : Header) : Type 0 where
  pub checked : Checked s h
  pub accepted : check s ≡ accepted_as h.capacity h.grain_size

-- 23, 27 and 47 are not given
pub record Published (s : List ℕ) (h : Header) : Type 0 where
  pub taken : Taken s h
  pub collapsible : not_collapsible h ≡ false
  pub clean : still_open h ≡ false
  pub size : h.grain_size ≡ 128
  pub whole : h.capacity % 128 ≡ 0

-- and its first n bytes are those of its normal form
pub record AlikeTo (n : ℕ) (s : List ℕ) (h : Header) : Type 0 where
  pub published : Published s h
  pub same : SameBytes s (form_of s h) 0 n

-- and the form is a file of so many sectors
pub record Laid (n sectors : ℕ) (s : List ℕ) (h : Header) : Type 0 where
  pub alike : AlikeTo n s h
  pub inside : n ≤ length s
  pub laid : sectors ≡ sectors_laid Kdmv h.capacity h.grain_size (grain_map s h)
