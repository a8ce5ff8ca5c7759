-- The answers of the second check, each premise as the code gives it.
use Prim.Native.Nat.{ℕ, ◌-◌, ◌≤◌, ◌<◌}
use mathlib.Core.Path.{◌≡◌, refl, sym, ap, ◌∙◌}
use mathlib.Core.List.{List, ◌++◌}
use mathlib.Core.Bool.{Bool, true, false, ◌&&◌}
use native.Mathlib.Omega.{arith}
use lib.Dec.{ltb, eqb}
use native.Mathlib.Nat.{zero-add}
use lib.ListN.{length, take, drop}
use lib.Seq.{length-take-le}
use borrow.Rule.Slice.PartMut.{post_of}
use borrow.Author.Tests.{lt-ltb, le-ltb}
use Rattle.base.specs.Pick.{pick}
use Rattle.base.specs.Bytes.{over, zeros}
use Rattle.base.proofs.Over.{zeros_length}
use Rattle.format.specs.Geometry.{file_sectors}
use Rattle.format.specs.Header.{header_of, judge}
use Rattle.format.specs.Areas.{areas, meet}
use Rattle.format.specs.Check.{check_apart, check}
use Rattle.format.specs.CheckIn.{words_needed, marked_sectors, came_to_marking, check_in_room, with_marked, check_in}
use Rattle.format.specs.CheckIn.{list_after_check}
use Rattle.format.specs.declared.Taken.TheVariants.{KdmvAlone}
use Rattle.format.specs.declared.Header.{Header}
use Rattle.format.specs.declared.Refusal.{Refusal}
use Rattle.format.specs.declared.Refusal.TheVariants.{TooLittleRoom, SharedSector}
use Rattle.format.specs.declared.MarkedAnswer.{MarkedAnswer}
use Rattle.format.proofs.HeaderJudged.{judged_header}
use Rattle.format.specs.Judged.{Unmarked}
use Rattle.format.proofs.CameToMarking.{apart_came}
use Rattle.accept.specs.Unmarked.{unmarked_of}
use Rattle.accept.proofs.UnmarkedLeft.{refused_left}
use Rattle.accept_in.specs.Lent.{Told, answer_of, unmarked_by, Lent}
use Rattle.std.specs.Prelude.{Result, Err}
use Rattle.format.specs.AnswerParts.{accepted_as}

-- the answer by what marking told
answer_same : (b : Bool) (h : Header) (m : ℕ)
    → (let a = pick b (Err SharedSector) (accepted_as h.capacity h.grain_size) in
    ◌≡◌ {A = MarkedAnswer} (answer_of h b m) (record { checked = a; marked = pick (came_to_marking a) m 0 }))
unfolding answer_of came_to_marking pick
answer_same true h m = refl
answer_same false h m = refl

module _ (s : List ℕ) (h : Header) (u : Unmarked KdmvAlone s h) where
  came : came_to_marking (check s) ≡ true
  came = rw u.left (apart_came s h)

  -- 21: nothing is marked, and the list is kept
  module _ (list : List ℕ) (needed : ℕ) (is : needed ≡ words_needed s) where
    short_room : length list < needed → check_in_room s (length list) ≡ Err TooLittleRoom
    unfolding check_in_room pick
    short_room l = rw (came, lt-ltb (length list) (words_needed s) (omega arith))

    pub lent_short : (z : MarkedAnswer) → length list < needed → z ≡ unmarked_by TooLittleRoom → Lent s list z list
    unfolding with_marked list_after_check came_to_marking pick
    lent_short z l q = record { answer = rw (short_room l) q; kept = rw (short_room l) }

    enough_room : needed ≤ length list → check_in_room s (length list) ≡ check_apart s h
    unfolding check_in_room pick
    enough_room l = rw (came, le-ltb (length list) (words_needed s) (omega arith)) u.left

    pub part_length : needed ≤ length list → length (take (needed - 0) list) ≡ words_needed s
    part_length l =
        let k : needed - 0 ≡ words_needed s = omega arith in
        rw k (length-take-le (words_needed s) list (omega arith))

    -- 12 and acceptance: the needed part is zero, and the rest as lent
    module _ (room : needed ≤ length list) (part : List ℕ) (r : Bool) (count : ℕ)
        (t : Told (areas s h) (take (needed - 0) list) part r count) where
      answer_told : answer_of h r count ≡ with_marked s (check_apart s h)
      unfolding with_marked check_apart
      answer_told =
          let is : h ≡ header_of s = judged_header s h u.judged in
          rw (t.meets, t.counted, ← is) (answer_same (meet (areas s h)) h (marked_sectors (areas s h)))

      part_zero : part ++ post_of 0 (needed - 0) list ≡ over list 0 (zeros (words_needed s))
      unfolding over
      part_zero =
          let k : needed - 0 ≡ words_needed s = omega arith in
          let z : part ≡ zeros (words_needed s) = t.cleared ∙ ap zeros (part_length room) in
          rw (z, k) (ap (λ (n : ℕ). zeros (words_needed s) ++ drop n list) (sym (zero-add _ ∙ zeros_length (words_needed s))))

      pub lent_marked : (z : MarkedAnswer) → z ≡ answer_of h r count → Lent s list z (part ++ post_of 0 (needed - 0) list)
      unfolding list_after_check pick
      lent_marked z q =
          record {
            answer = q ∙ answer_told ∙ ap (with_marked s) (sym (enough_room room));
            kept = part_zero ∙ rw (enough_room room, apart_came s h);
          }

-- ---- a refusal before 12: nothing is marked, and the list is kept
module _ (s : List ℕ) (a : Result Header Refusal) (e : a ≡ unmarked_of (check s) (header_of s)) (r : Refusal)
    (q : a ≡ Err r) where
  refused_room : (room : ℕ) → (check_in_room s room ≡ Err r) × (came_to_marking (Err r) ≡ false)
  unfolding check_in_room pick
  refused_room room =
      let n = refused_left (check s) (header_of s) r (sym e ∙ q) in (rw n.1 n.0, rw n.0 at n.1)

  pub lent_refused : (list : List ℕ) (z : MarkedAnswer) → z ≡ unmarked_by r → Lent s list z list
  unfolding with_marked list_after_check pick
  lent_refused list z t =
      let n = refused_room (length list) in
      record { answer = rw (n.0, n.1) t; kept = rw (n.0, n.1) }
