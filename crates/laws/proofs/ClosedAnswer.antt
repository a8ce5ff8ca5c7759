-- What closing answers and writes (request A12): the numbers, the tail from the output's start on, and what the output held
-- past it; on a refusal all that it held.
use Prim.Native.Nat.{ℕ, ◌*◌, ◌≤◌}
use mathlib.Core.Path.{◌≡◌, refl, sym, ap, ◌∙◌}
use mathlib.Core.List.{List, ◌++◌}
use mathlib.Core.Bool.{Bool, false}
use mathlib.Core.Logic.{◌⊎◌, inl, inr}
use native.Mathlib.Omega.{arith}
use native.Mathlib.Nat.{zero-add}
use lib.Dec.{ltb}
use lib.ListN.{length, take, drop}
use lib.Seq.{take_at, drop_at}
use borrow.Author.Tests.{ltb-false, le-ltb}
use Rattle.base.specs.Pick.{pick}
use Rattle.base.specs.Bytes.{over}
use Rattle.base.proofs.Steps.{cond_all}
use Rattle.base.proofs.Over.{over_length}
use Rattle.format.specs.Header.{start_of, judge_start}
use Rattle.format.specs.Check.{check}
use Rattle.format.specs.Stream.{kept_grains, kept_sectors}
use Rattle.format.specs.Close.{not_closable, tail_of, tail_length, closed_image, close_from, close_judged, close}
use Rattle.format.specs.Close.{tail_written, close_output}
use Rattle.format.specs.Answers.{number}
use Rattle.format.specs.declared.Header.{Header}
use Rattle.format.specs.declared.Refusal.{Refusal}
use Rattle.format.specs.declared.Refusal.TheVariants.{TooLittleRoom, NotClosable}
use Rattle.format.proofs.HeaderRefusals.{Early, start_refuses}
use Rattle.format.proofs.HeaderStart.{started}
use Rattle.format.proofs.Picked.{passed, pick_else}
use Rattle.format.proofs.TailLengths.{tail_length_lem}
use Rattle.laws.specs.Closed.{Closable, AnsweredAs}
use Rattle.laws.proofs.ClosedStart.{closing}
use Rattle.laws.proofs.ClosedAccepted.{closed_accepted}
use Rattle.std.specs.Prelude.{Result, Ok, Err}
use Rattle.format.specs.declared.closing.Kept.{Kept}
use Rattle.format.specs.AnswerParts.{accepted_as}
use Rattle.format.specs.AnswerParts.{closed_as}
use Rattle.format.proofs.SameParts.{same_kept}

-- ---- what an answer tells of the way to it
closed_past : (b : Bool) (r : Refusal) (y : Result Kept Refusal) (n g t : ℕ) → pick b (Err r) y ≡ closed_as n g t
    → (b ≡ false) × (y ≡ closed_as n g t)
closed_past b r y n g t e = passed b (Err r) y (closed_as n g t) (λ q. let z : ◌≡◌ {A = ℕ} 0 1 = cc in omega arith) e

closed_known : (s : List ℕ) (room n g t : ℕ) (a : Result Header Refusal) → close_judged s room a ≡ closed_as n g t
    → (h : Header) × (a ≡ Ok h) × (close_from s h room ≡ closed_as n g t)
unfolding close_judged
closed_known s room n g t (Err r) e = let z : ◌≡◌ {A = ℕ} 0 1 = cc in absurd (omega arith)
closed_known s room n g t (Ok h) e = (h, refl, e)

-- ---- which refusals there are
abbrev Given : Result Kept Refusal → Type 0
Given (Ok kept) = Unit
Given (Err r) = Early 6 r ⊎ ((r ≡ NotClosable) ⊎ (r ≡ TooLittleRoom))

refused_from : (s : List ℕ) (room : ℕ) (a : Result Header Refusal) → judge_start s ≡ a → Given (close_judged s room a)
unfolding close_judged close_from
refused_from s room (Err r) e = inl (start_refuses s r e)
refused_from s room (Ok h) e =
    cond_all Given _ _ _ (λ b. inr (inl refl)) (λ b. cond_all Given _ _ _ (λ d. inr (inr refl)) (λ d. tt))

-- ---- the answer's numbers
module _ (s : List ℕ) where
  tail_long_lem : Closable s → length (tail_of s (start_of s)) ≡ tail_length s (start_of s)
  tail_long_lem c = tail_length_lem s (start_of s) _ _ (closing s c).started.long

  pub closed_answer : (room sectors grains long : ℕ) → close s room ≡ closed_as sectors grains long
      → AnsweredAs s room sectors grains long
  unfolding close_from
  closed_answer room n g t e =
      let k = closed_known s room n g t (judge_start s) e in
      let h = k.0 in
      let a = closed_past (not_closable s h) _ _ n g t k.2 in
      let b = closed_past (ltb room (tail_length s h)) _ _ n g t a.1 in
      let q = same_kept _ _ _ n g t b.1 in
      let is = (started s h k.1).is in
      let c : Closable s = record { known = rw is at k.1; closable = rw is at a.0 } in
      let r = ltb-false room (tail_length s h) b.0 in
      record {
        closable = c;
        kept = sym (rw is at q.0);
        grain_count = sym (rw is at q.1);
        tail_long = sym (rw is at q.2) ∙ sym (tail_long_lem c);
        fits = omega (arith, q.2, r);
      }

  -- refusals: 1 to 6 and 43, 41, 21
  pub close_refuses : (room : ℕ) (r : Refusal) → close s room ≡ Err r
      → ((number r ≤ 6) ⊎ (number r ≡ 43)) ⊎ ((r ≡ NotClosable) ⊎ (r ≡ TooLittleRoom))
  close_refuses room r e = rw e at (refused_from s room (judge_start s) refl)

  -- and the other way: a start that is not refused 1 to 6 or 41 is closed where the tail has room
  pub closed_room : Closable s → (room : ℕ) → length (tail_of s (start_of s)) ≤ room
      → close s room ≡ closed_as (kept_sectors s (start_of s)) (length (kept_grains s (start_of s)))
      (length (tail_of s (start_of s)))
  unfolding close_from close_judged
  closed_room c room fits =
      rw c.known
      (pick_else _ _ _ c.closable
      ∙ pick_else _ _ _ (le-ltb room (tail_length s (start_of s)) (omega (arith, tail_long_lem c)))
      ∙ ap (closed_as (kept_sectors s (start_of s)) (length (kept_grains s (start_of s)))) (sym (tail_long_lem c)))

  -- ---- the output
  module _ (out : List ℕ) where
    written : (sectors grains long : ℕ) → close s (length out) ≡ closed_as sectors grains long
        → close_output s out ≡ over out 0 (tail_of s (start_of s))
    unfolding tail_written
    written n g t e = rw e

    module _ (sectors grains long : ℕ) (e : close s (length out) ≡ closed_as sectors grains long) where
      -- the tail from its start on, what it held past that, and as long as before
      pub output_tail : take long (close_output s out) ≡ tail_of s (start_of s)
      unfolding over
      output_tail =
          rw (written sectors grains long e)
          (take_at (tail_of s (start_of s)) _ long (sym (closed_answer (length out) sectors grains long e).tail_long))

      pub output_past : drop long (close_output s out) ≡ drop long out
      unfolding over
      output_past =
          let q = (closed_answer (length out) sectors grains long e).tail_long in
          rw (written sectors grains long e)
          (drop_at (tail_of s (start_of s)) _ long (sym q) ∙ rw (← q, zero-add))

      pub output_long : length (close_output s out) ≡ length out
      output_long =
          let c = closed_answer (length out) sectors grains long e in
          rw (written sectors grains long e)
          (over_length out 0 (tail_of s (start_of s)) (omega (arith, c.tail_long, c.fits)))

      -- so the kept sectors of what was lent and the tail's bytes of the output are the closed image
      pub closed_whole : take (512 * sectors) s ++ take long (close_output s out) ≡ closed_image s
      closed_whole =
          rw output_tail
          (ap (λ (n : ℕ). take (512 * n) s ++ tail_of s (start_of s)) (closed_answer (length out) sectors grains long e).kept)

      -- which the check accepts
      pub written_accepted : check (take (512 * sectors) s ++ take long (close_output s out))
          ≡ accepted_as (start_of s).capacity (start_of s).grain_size
      written_accepted =
          rw closed_whole (closed_accepted s (closed_answer (length out) sectors grains long e).closable)

    pub output_refused : (r : Refusal) → close s (length out) ≡ Err r → close_output s out ≡ out
    unfolding tail_written
    output_refused r e = rw e
