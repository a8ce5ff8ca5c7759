-- What is known of an image by what refusals 1 to 11 leave of it.
use Prim.Native.Nat.{ℕ}
use mathlib.Core.Path.{◌≡◌, refl, sym, ◌∙◌}
use mathlib.Core.List.{List}
use mathlib.Core.Bool.{Bool, true, false}
use native.Mathlib.Omega.{arith}
use Rattle.base.specs.Pick.{pick}
use Rattle.format.specs.Header.{header_of, judge_of}
use Rattle.format.specs.Check.{check_layout, check_apart, check_from, check_of}
use Rattle.format.specs.CheckIn.{came_to_marking}
use Rattle.format.specs.Judged.{Unmarked}
use Rattle.format.specs.declared.Taken.{Taken}
use Rattle.format.specs.declared.Header.{Header}
use Rattle.format.specs.declared.Refusal.{Refusal}
use Rattle.format.proofs.HeaderJudged.{taken_header}
use Rattle.format.proofs.CameToMarking.{header_early, unmarked_of_lem}
use Rattle.format.proofs.Picked.{passed}
use Rattle.overlap.specs.InFile.{InFile}
use Rattle.accept.specs.Unmarked.{unmarked_of}
use Rattle.accept.proofs.Checked.{in_file}
use Rattle.accept.proofs.UnmarkedSteps.{early_refused}
use Rattle.std.specs.Prelude.{Result, Ok, Err}
use Rattle.format.specs.declared.Shape.{Shape}

not_both : (x : Refusal) (h : Header) → Err x ≡ Ok h → ⊥
not_both x h e = let z : ◌≡◌ {A = ℕ} 0 1 = cc in omega arith

-- ---- by what is left: a header, or a refusal
marked_came : (b : Bool) (x : Refusal) (h k : Header) → pick b (Ok h) (Err x) ≡ Ok k → (b ≡ true) × (h ≡ k)
unfolding pick
marked_came true x h k e = (refl, cc)
marked_came false x h k e = absurd (not_both x k e)

known_came : (a : Result Shape Refusal) (h k : Header) → unmarked_of a h ≡ Ok k → (came_to_marking a ≡ true) × (h ≡ k)
unfolding unmarked_of came_to_marking
known_came (Ok sizes) h k e = (refl, cc)
known_came (Err x) h k e = marked_came (came_to_marking (Err x)) x h k e

pub refused_left : (a : Result Shape Refusal) (h : Header) (r : Refusal) → unmarked_of a h ≡ Err r
    → (a ≡ Err r) × (came_to_marking a ≡ false)
unfolding unmarked_of came_to_marking
refused_left (Ok sizes) h r e = absurd (not_both r h (sym e))
refused_left (Err x) h r e =
    let p = passed (came_to_marking (Err x)) (Ok h) (Err x) (Err r) (λ q. not_both r h (sym q)) e in
    let q = p.1 in
    (cc, p.0)

module _ (taken : Taken) (s : List ℕ) where
  -- ---- at the arms of a match
  module _ (a : Result Header Refusal) (e : a ≡ unmarked_of (check_of taken s) (header_of s)) where
    pub left_known : (h : Header) → a ≡ Ok h → Unmarked taken s h
    left_known h q =
        let k = known_came (check_of taken s) (header_of s) h (sym e ∙ q) in rw k.1 at (unmarked_of_lem taken s k.0)

    pub left_in_file : (h : Header) → a ≡ Ok h → InFile s h
    left_in_file h q = in_file s h taken (left_known h q)

    pub left_apart : (h : Header) (z : Result Shape Refusal) → a ≡ Ok h → z ≡ check_apart s h → z ≡ check_of taken s
    left_apart h z q t = t ∙ sym (left_known h q).left

    pub left_refused : (r : Refusal) (z : Result Shape Refusal) → a ≡ Err r → z ≡ Err r → z ≡ check_of taken s
    left_refused r z q t = t ∙ sym (refused_left (check_of taken s) (header_of s) r (sym e ∙ q)).0

  module _ (a : Result Header Refusal) (e : a ≡ judge_of taken s) (z : Result Header Refusal) where
    pub judge_known : (h : Header) → a ≡ Ok h → z ≡ unmarked_of (check_layout s h) h
        → z ≡ unmarked_of (check_of taken s) (header_of s)
    unfolding check_from
    judge_known h q t =
        let j : judge_of taken s ≡ Ok h = sym e ∙ q in
        let is : header_of s ≡ h = sym (taken_header s taken h j) in
        rw (j, is) t

    pub judge_refused : (r : Refusal) → a ≡ Err r → z ≡ Err r → z ≡ unmarked_of (check_of taken s) (header_of s)
    unfolding check_from
    judge_refused r q t =
        let j : judge_of taken s ≡ Err r = sym e ∙ q in
        rw j (t ∙ sym (early_refused r (header_of s) (header_early taken s r j)))
