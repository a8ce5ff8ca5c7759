-- A judged header is sound, and is the one that the image's bytes tell.
use Prim.Native.Nat.{ℕ, ◌≤◌}
use mathlib.Core.Path.{◌≡◌, sym, ◌∙◌}
use mathlib.Core.List.{List}
use mathlib.Core.Bool.{Bool, false}
use lib.ListN.{length}
use borrow.Author.Tests.{le-ltb}
use Rattle.base.specs.Pick.{pick}
use Rattle.base.specs.Strings.{same_at}
use Rattle.format.specs.Kdmv.{kdmv_magic}
use Rattle.format.specs.Header.{header_of, judge_of, judge, judge_start}
use Rattle.format.specs.Judged.{Sound}
use Rattle.format.specs.declared.Header.{Header}
use Rattle.format.proofs.HeaderJudged as rules
use Rattle.format.proofs.HeaderSound.{sound_of}
use Rattle.std.specs.Prelude.{Result, Ok}
use Rattle.format.specs.declared.Refusal.{Refusal}

module _ (a : Result Header Refusal) (s : List ℕ) (h : Header) (e : a ≡ judge s) (q : a ≡ Ok h) where
  pub judged_sound : Sound h
  judged_sound = sound_of s h (sym e ∙ q)

  pub judged_header : h ≡ header_of s
  judged_header = rules.judged_header s h (sym e ∙ q)

-- of a start that is no KDMV image all that is judged of an image is
pub not_kdmv : {b : Bool} (a : Result Header Refusal) (s : List ℕ) → a ≡ judge s → 4 ≤ length s → b ≡ same_at s 0 kdmv_magic
    → b ≡ false
    → a ≡ judge_start s
unfolding judge_of judge_start pick
not_kdmv a s e long q n = e ∙ rw (le-ltb (length s) 4 long, ← q, n)
