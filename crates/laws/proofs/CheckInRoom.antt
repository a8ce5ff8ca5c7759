-- The second check: its answer is the plain one's wherever it is not 21, its number is never more than F, and of the lent list
-- the needed part alone is written, with zeros, after acceptance and 12.
use Prim.Native.Nat.{ℕ, ◌+◌, ◌*◌, ◌≤◌, ◌<◌}
use mathlib.Core.Path.{◌≡◌, refl, sym, ap, ◌∙◌}
use mathlib.Core.List.{List}
use mathlib.Core.Logic.{⊎_elim}
use mathlib.Core.Bool.{Bool, true, false, ◌&&◌, true≢false}
use native.Mathlib.Omega.{arith}
use native.Mathlib.Nat.{zero-add}
use lib.Dec.{ltb}
use lib.ListN.{length, get_or}
use borrow.Author.Tests.{lt-ltb, ltb-true, ne_eqb}
use Rattle.base.specs.Pick.{pick}
use Rattle.base.specs.Bytes.{over, zeros}
use Rattle.base.proofs.Steps.{and_yes, true_or_false, lt_or_ge, cond_all}
use Rattle.base.proofs.Over.{over_length, zeros_length, zeros_at}
use Rattle.base.proofs.OverApart.{over_within, over_past}
use Rattle.format.specs.Geometry.{file_sectors}
use Rattle.format.specs.Header.{header_of, judge}
use Rattle.format.specs.Areas.{areas, meet}
use Rattle.format.specs.Check.{check_apart, check}
use Rattle.format.specs.CheckIn.{words_needed, sectors_of, came_to_marking, check_in_room, with_marked, check_in}
use Rattle.format.specs.CheckIn.{list_after_check}
use Rattle.format.specs.Answers.{number}
use Rattle.format.specs.declared.Taken.TheVariants.{KdmvAlone}
use Rattle.format.specs.declared.Refusal.{Refusal}
use Rattle.format.specs.declared.Refusal.TheVariants.{SharedSector, TooLittleRoom}
use Rattle.format.proofs.CameToMarking.{unmarked_of_lem}
use Rattle.format.proofs.Filed.{all_in_file}
use Rattle.format.proofs.HeaderJudged.{judged_header}
use Rattle.format.proofs.MarkedSectors.{marked_most, marked_all}
use Rattle.format.proofs.Passed.{header_passed, layout_passed}
use Rattle.laws.specs.FirstMeeting.{FirstMeeting}
use Rattle.laws.proofs.CheckRefusals.{check_refuses}
use Rattle.laws.proofs.FirstMeeting.{meeting_first}
use Rattle.std.specs.Prelude.{Result, Err}
use Rattle.format.specs.declared.Shape.{Shape}
use Rattle.format.specs.AnswerParts.{accepted_as}

short_not : came_to_marking (Err TooLittleRoom) ≡ false
unfolding came_to_marking
short_not = refl

accepted_apart : (s : List ℕ) (c g : ℕ) → check s ≡ accepted_as c g → meet (areas s (header_of s)) ≡ false
accepted_apart s c g e =
    let k = header_passed s (judge s) c g e in
    let is : k.0 ≡ header_of s = judged_header s k.0 k.1 in
    rw is at (layout_passed s k.0 c g k.2).apart

shared_meet : (s : List ℕ) → came_to_marking (check s) ≡ true → check s ≡ Err SharedSector
    → meet (areas s (header_of s)) ≡ true
unfolding check_apart pick
shared_meet s c e =
    let u = unmarked_of_lem KdmvAlone s c in
    ⊎_elim (λ y. y) (λ n. let other = rw n at (sym u.left ∙ e) in let z : ◌≡◌ {A = ℕ} 0 1 = cc in absurd (omega arith))
    (true_or_false (meet (areas s (header_of s))))

-- a word for every 64 file sectors, rounded up
pub words_enough : (s : List ℕ) → (file_sectors s ≤ 64 * words_needed s) × (64 * words_needed s < file_sectors s + 64)
words_enough s = (omega arith, omega arith)

module _ (s : List ℕ) (room : ℕ) where
  abbrev short : Bool
  short = came_to_marking (check s) && ltb room (words_needed s)

  -- ---- 21
  -- exactly where the plain check accepts or refuses 12, and the list has fewer words than are needed
  pub short_refused : came_to_marking (check s) ≡ true → room < words_needed s
      → (check_in s room).checked ≡ Err TooLittleRoom
  unfolding check_in_room with_marked pick
  short_refused c l = rw (c, lt-ltb room (words_needed s) l)

  pub refused_short : (check_in s room).checked ≡ Err TooLittleRoom
      → (came_to_marking (check s) ≡ true) × (room < words_needed s)
  unfolding check_in_room with_marked pick
  refused_short e =
      ⊎_elim (λ y. let b = and_yes (came_to_marking (check s)) (ltb room (words_needed s)) y in (b.0, ltb-true _ _ b.1))
      (λ n. absurd (⊎_elim (λ l. omega arith) (λ l. omega arith) (check_refuses s TooLittleRoom (rw n at e))))
      (true_or_false short)

  -- elsewhere the plain check's answer
  pub plain_answer : ((check_in s room).checked ≡ Err TooLittleRoom → ⊥) → (check_in s room).checked ≡ check s
  unfolding check_in_room with_marked pick
  plain_answer n =
      ⊎_elim (λ y. absurd (n (rw y))) (λ f. rw f) (true_or_false short)

  -- ---- the number
  -- what the check came to
  pub came_plain : came_to_marking (check_in_room s room) ≡ true
      → (check_in_room s room ≡ check s) × (came_to_marking (check s) ≡ true)
  unfolding check_in_room pick
  came_plain =
      ⊎_elim (λ y e. absurd (true≢false (sym e ∙ rw y short_not))) (λ f e. (rw f, rw f at e)) (true_or_false short)

  pub room_enough : came_to_marking (check_in_room s room) ≡ true → words_needed s ≤ room
  unfolding with_marked
  room_enough e =
      ⊎_elim
      (λ l. absurd (true≢false (sym e ∙ ap came_to_marking (short_refused (came_plain e).1 l) ∙ short_not)))
      (λ g. g)
      (lt_or_ge room (words_needed s))

  pub number_most : (check_in s room).marked ≤ file_sectors s
  unfolding with_marked
  number_most =
      cond_all (λ n. n ≤ file_sectors s) (came_to_marking (check_in_room s room)) _ _
      (λ y. let u = unmarked_of_lem KdmvAlone s (came_plain y).1 in
      marked_most (file_sectors s) (areas s (header_of s))
      (all_in_file s (header_of s) KdmvAlone u.judged u.filed.placed.kept u.filed.none))
      (λ n. omega arith)

  -- after acceptance all areas are counted
  pub accepted_number : (c g : ℕ) → (check_in s room).checked ≡ accepted_as c g
      → (check_in s room).marked ≡ sectors_of (areas s (header_of s))
  unfolding with_marked came_to_marking pick
  accepted_number c g e =
      let p = came_plain (rw e) in
      rw e (marked_all (areas s (header_of s)) (accepted_apart s c g (sym p.0 ∙ e)))

  -- on 12 those before the first that meets an earlier one, and on every other refusal none
  pub shared_number : (check_in s room).checked ≡ Err SharedSector
      → FirstMeeting (areas s (header_of s)) (check_in s room).marked
  unfolding with_marked came_to_marking pick
  shared_number e =
      let p = came_plain (rw e) in
      rw e (meeting_first (areas s (header_of s)) (shared_meet s p.1 (sym p.0 ∙ e)))

  pub other_number : (r : Refusal) → (check_in s room).checked ≡ Err r → (number r ≡ 12 → ⊥) → (check_in s room).marked ≡ 0
  unfolding with_marked came_to_marking pick
  other_number r e n = rw (e, ne_eqb (number r) 12 n)

-- ---- the lent list
module _ (s list : List ℕ) where
  abbrev answer : Result Shape Refusal
  answer = (check_in s (length list)).checked

  -- on a refusal but 12 it keeps its content
  pub list_kept : (r : Refusal) → answer ≡ Err r → (number r ≡ 12 → ⊥) → list_after_check s list ≡ list
  unfolding with_marked list_after_check came_to_marking pick
  list_kept r e n = rw (e, ne_eqb (number r) 12 n)

  -- after acceptance and 12 the needed part is zero
  module _ (came : came_to_marking answer ≡ true) where
    written : list_after_check s list ≡ over list 0 (zeros (words_needed s))
    unfolding with_marked list_after_check pick
    written = rw came

    enough : 0 + length (zeros (words_needed s)) ≤ length list
    unfolding with_marked
    enough = omega (arith, zeros_length (words_needed s), room_enough s (length list) came)

    pub list_zero : (i : ℕ) → i < words_needed s → get_or (list_after_check s list) i 0 ≡ 0
    list_zero i b =
        rw written
        (rw zero-add at (over_within list 0 (zeros (words_needed s)) enough i (omega (arith, zeros_length (words_needed s)))
        ∙ zeros_at (words_needed s) i))

    written_rest : (i : ℕ) → words_needed s ≤ i → get_or (list_after_check s list) i 0 ≡ get_or list i 0
    written_rest i b =
        rw written
        (over_past list 0 (zeros (words_needed s)) enough i (omega (arith, zeros_length (words_needed s))))

    written_length : length (list_after_check s list) ≡ length list
    written_length = rw written (over_length list 0 (zeros (words_needed s)) enough)

  unwritten : came_to_marking answer ≡ false → list_after_check s list ≡ list
  unfolding with_marked list_after_check pick
  unwritten n = rw n

  -- whatever the answer, the rest is never written, and the list has the length that it had
  pub list_rest : (i : ℕ) → words_needed s ≤ i → get_or (list_after_check s list) i 0 ≡ get_or list i 0
  list_rest i b =
      ⊎_elim (λ y. written_rest y i b) (λ n. ap (λ (l : List ℕ). get_or l i 0) (unwritten n))
      (true_or_false (came_to_marking answer))

  pub list_length : length (list_after_check s list) ≡ length list
  list_length = ⊎_elim (λ y. written_length y) (λ n. ap length (unwritten n)) (true_or_false (came_to_marking answer))
