-- The frame is refused 1 to 8 exactly where the check is, and for the same reason.
use Prim.Native.Nat.{ℕ, ◌*◌, ◌≤◌}
use lib.Dec.{ltb}
use mathlib.Core.Path.{◌≡◌, sym, ap}
use mathlib.Core.List.{List}
use mathlib.Core.Bool.{Bool, true, false}
use native.Mathlib.Omega.{arith}
use Rattle.base.specs.Pick.{pick}
use Rattle.format.specs.Header.{judge}
use Rattle.format.specs.Check.{misplaced, lowest_misplaced, lowest_past, lowest_bad_marker, copies_differ, unless_grain}
use Rattle.format.specs.Check.{check_apart, check_copies, check_grains}
use Rattle.format.specs.Check.{check_layout, check_from, check}
use Rattle.format.specs.Areas.{areas, meet}
use Rattle.format.specs.Answers.{number}
use Rattle.format.specs.Frame.{frame_count, listed_if_room, frame_from, frame}
use Rattle.format.specs.declared.Header.{Header}
use Rattle.format.specs.declared.Refusal.{Refusal}
use Rattle.format.specs.declared.Refusal.TheVariants.{Misplaced, GrainPast, Marker, TooLittleRoom}
use Rattle.base.proofs.Steps.{cond_all}
use Rattle.std.specs.Prelude.{Result, Ok, Err, Option, Some, None}
use Rattle.format.specs.declared.Shape.{Shape}
use Rattle.format.specs.AnswerParts.{accepted_as}

-- ---- past 8 only 9 to 12 are given
data Late : Result Shape Refusal → Type 0 where
  fine : {c size : ℕ} → Late (accepted_as c size)
  late : {r : Refusal} → 9 ≤ number r → Late (Err r)

late_unless : (l : Option ℕ) (refusal : ℕ → Refusal) (a : Result Shape Refusal) → ((g : ℕ) → 9 ≤ number (refusal g)) → Late a
    → Late (unless_grain l refusal a)
unfolding unless_grain
late_unless None refusal a high w = w
late_unless (Some g) refusal a high w = late (high g)

late_grains : (s : List ℕ) (h : Header) → Late (check_grains s h)
unfolding check_grains check_copies check_apart
late_grains s h =
    late_unless (lowest_past s h) GrainPast _ (λ g. omega arith)
    (late_unless (lowest_bad_marker s h) Marker _ (λ g. omega arith)
    (cond_all Late (copies_differ s h) _ _ (λ e. late (omega arith))
    (λ n. cond_all Late (meet (areas s h)) _ _ (λ e. late (omega arith)) (λ m. fine))))

not_late : (a : Result Shape Refusal) (r : Refusal) → Late a → a ≡ Err r → 9 ≤ number r
not_late (Ok sizes) r w e = let n : ◌≡◌ {A = ℕ} 0 1 = cc in absurd (omega arith)
not_late (Err q) r (late high) e = let same : q ≡ r = cc in rw same at high

pub grains_late : (s : List ℕ) (h : Header) (r : Refusal) → check_grains s h ≡ Err r → 9 ≤ number r
grains_late s h r e = not_late (check_grains s h) r (late_grains s h) e

-- ---- a call that judges 8 as the check does hands 8 on, whatever it does next
pub layout_handed : {A : Type 0} (refused : Refusal → A) (s : List ℕ) (h : Header) (r : Refusal) (next : A) → number r ≤ 8
    → check_layout s h ≡ Err r → pick (misplaced s h) (refused (Misplaced (lowest_misplaced s h))) next ≡ refused r
unfolding check_layout pick
layout_handed refused s h r next low e = by (misplaced s h) e
  where
    by : (b : Bool) → pick b (Err (Misplaced (lowest_misplaced s h))) (check_grains s h) ≡ Err r
        → pick b (refused (Misplaced (lowest_misplaced s h))) next ≡ refused r
    by true q = let same : Misplaced (lowest_misplaced s h) ≡ r = cc in ap refused same
    by false q = absurd (omega (arith, grains_late s h r q))

-- ---- where the check is refused 1 to 8, so is the frame
frame_from_check : (s : List ℕ) (room : ℕ) (r : Refusal) (a : Result Header Refusal) → number r ≤ 8 → check_from s a ≡ Err r
    → frame_from s room a ≡ Err r
unfolding check_from frame_from
frame_from_check s room r (Err q) low e = let same : q ≡ r = cc in ap Err same
frame_from_check s room r (Ok h) low e = layout_handed Err s h r _ low e

pub frame_as_check : (s : List ℕ) (room : ℕ) (r : Refusal) → number r ≤ 8 → check s ≡ Err r → frame s room ≡ Err r
frame_as_check s room r low e = frame_from_check s room r (judge s) low e

-- ---- and where the frame is refused, but for 21, so is the check
check_from_frame : (s : List ℕ) (room : ℕ) (r : Refusal) (a : Result Header Refusal) → (r ≡ TooLittleRoom → ⊥)
    → frame_from s room a ≡ Err r → check_from s a ≡ Err r
unfolding check_from check_layout frame_from listed_if_room pick
check_from_frame s room r (Err q) other e = let same : q ≡ r = cc in ap Err same
check_from_frame s room r (Ok h) other e = by (misplaced s h) (ltb room (3 * frame_count s h)) e
  where
    by : (b short : Bool)
        → pick b (Err (Misplaced (lowest_misplaced s h)))
        (pick short (Err TooLittleRoom) (Ok (frame_count s h))) ≡ Err r
        → pick b (Err (Misplaced (lowest_misplaced s h))) (check_grains s h) ≡ Err r
    by true short q = let same : Misplaced (lowest_misplaced s h) ≡ r = cc in ap Err same
    by false true q = let same : TooLittleRoom ≡ r = cc in absurd (other (sym same))
    by false false q = let n : ◌≡◌ {A = ℕ} 0 1 = cc in absurd (omega arith)

pub check_as_frame : (s : List ℕ) (room : ℕ) (r : Refusal) → (r ≡ TooLittleRoom → ⊥) → frame s room ≡ Err r
    → check s ≡ Err r
check_as_frame s room r other e = check_from_frame s room r (judge s) other e
