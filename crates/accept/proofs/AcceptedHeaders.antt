-- The header of an accepted image, and what the check found on its way.
use Prim.Native.Nat.{ℕ}
use mathlib.Core.Path.{◌≡◌, refl, sym, ◌∙◌}
use mathlib.Core.List.{List}
use native.Mathlib.Omega.{arith}
use Rattle.format.specs.Header.{header_of, judge_of}
use Rattle.format.specs.Check.{check_of}
use Rattle.format.specs.declared.Taken.{Taken}
use Rattle.format.specs.declared.Header.{Header}
use Rattle.format.specs.declared.Refusal.{Refusal}
use Rattle.format.proofs.HeaderJudged.{taken_header}
use Rattle.format.proofs.HeaderSound.{taken_sound}
use Rattle.format.proofs.Passed.{header_passed, layout_passed}
use Rattle.format.specs.Judged.{Filed}
use Rattle.accept.specs.AcceptedHeader.{accepted_header, Checked}
use Rattle.std.specs.Prelude.{Result, Ok, Err}
use Rattle.format.specs.declared.Shape.{Shape}
use Rattle.format.specs.AnswerParts.{accepted_as}

-- ---- a check that accepts went through 1 to 9
module _ (taken : Taken) (s : List ℕ) where
  accepted_checked : (c z : ℕ) → check_of taken s ≡ accepted_as c z
      → (judge_of taken s ≡ Ok (header_of s)) × Checked s (header_of s)
  accepted_checked c z e =
      let k = header_passed s (judge_of taken s) c z e in
      let p = layout_passed s k.0 c z k.2 in
      let is : k.0 ≡ header_of s = taken_header s taken k.0 k.1 in
      let filed : Filed s k.0 = record {
        placed = record { sound = taken_sound s taken k.0 k.1; kept = p.places };
        none = p.grains;
      } in
      (rw is at k.1, record { is = refl; filed = rw is at filed })

  -- ---- the header of an accepted image, at the arms of a match
  module _ (a : Result Shape Refusal) (e : a ≡ check_of taken s) (w : Result Header Refusal) where
    pub header_refused : (r : Refusal) → a ≡ Err r → w ≡ Err r → w ≡ accepted_header (check_of taken s) (header_of s)
    unfolding accepted_header
    header_refused r q p = rw (← e, q) p

    pub header_accepted : (sizes : Shape) → a ≡ Ok sizes → w ≡ judge_of taken s
        → w ≡ accepted_header (check_of taken s) (header_of s)
    unfolding accepted_header
    header_accepted sizes q p = rw (← e, q) (p ∙ (accepted_checked sizes.capacity sizes.grain_size (sym e ∙ q)).0)

  known_checked : (a : Result Shape Refusal) (h : Header) → a ≡ check_of taken s → accepted_header a (header_of s) ≡ Ok h
      → Checked s h
  unfolding accepted_header
  known_checked (Err r) h e q = let n : ◌≡◌ {A = ℕ} 0 1 = cc in absurd (omega arith)
  known_checked (Ok sizes) h e q =
      let is : header_of s ≡ h = cc in rw is at (accepted_checked sizes.capacity sizes.grain_size (sym e)).1

  pub checked_of : (a : Result Header Refusal) (h : Header) → a ≡ accepted_header (check_of taken s) (header_of s) → a ≡ Ok h
      → Checked s h
  checked_of a h e q = known_checked (check_of taken s) h refl (sym e ∙ q)
