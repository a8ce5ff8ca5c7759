-- The survey's steps, each premise as the code gives it.
use Prim.Native.Nat.{ℕ, zero, suc, ◌+◌, ◌*◌, ◌/◌, ◌≤◌, ◌<◌}
use mathlib.Core.Path.{◌≡◌, refl, sym, ap, ◌∙◌}
use mathlib.Core.List.{List, [], ◌∷◌}
use mathlib.Core.Bool.{Bool, true, false, ◌||◌}
use native.Mathlib.Omega.{arith}
use lib.Dec.{ltb}
use lib.ListN.{length, get_or, take, drop}
use lib.Seq.{take-append_seam}
use borrow.Author.Tests.{ltb-false}
use Rattle.base.specs.Bytes.{over}
use Rattle.base.specs.Rows.{tabulate}
use Rattle.base.proofs.Steps.{or_no}
use Rattle.base.proofs.Rows.{rows_same, row_at_lem}
use Rattle.base.proofs.Stands.{Stands}
use Rattle.format.specs.Chain.{lengths_broken}
use Rattle.format.specs.Survey.{count_of, row_at, row_words, rows_below, totals_below, after_survey}
use Rattle.format.specs.Survey.{surveyed_if_room, survey}
use Rattle.format.specs.declared.Totals.{Totals}
use Rattle.format.specs.declared.Refusal.{Refusal}
use Rattle.format.specs.declared.Refusal.TheVariants.{TooLittleRoom, LayerLengths}
use Rattle.format.proofs.Picked.{pick_then, pick_else}
use Rattle.survey.specs.SurveyTold.{SurveyTold}
use Rattle.survey.proofs.RowsPut.{row_long, rows_long}
use Rattle.std.specs.Prelude.{Result, Ok, Err}

count_same : (f g : ℕ → ℕ) (v n : ℕ) → ((k : ℕ) → k < n → f k ≡ g k) → count_of f v n ≡ count_of g v n
unfolding count_of
count_same f g v zero e = refl
count_same f g v (suc n) e = rw (count_same f g v n (λ k b. e k (omega arith)), e n (omega arith))

module _ (s l : List ℕ) where
  -- word 4 of row k is its number
  number_at : (n k : ℕ) → k < n → get_or (rows_below s l n) (6 * k + 4) 0 ≡ (row_at s l k).number
  unfolding row_words
  number_at n k b =
      let row : Stands (rows_below s l n) (k * 6) (row_words (row_at s l k)) =
      row_at_lem n 6 (λ i. row_words (row_at s l i)) (λ i c. row_long (row_at s l i)) k b in
      let at : 6 * k + 4 ≡ k * 6 + 4 = omega arith in
      rw at (row.same 4 (omega arith))

  -- the rows at the list's start
  rows_put : (d x : List ℕ) (n : ℕ) → x ≡ over d 0 (rows_below s l n) → take (6 * n) x ≡ rows_below s l n
  unfolding over
  rows_put d x n e =
      let long : 6 * n ≡ length (rows_below s l n) = omega (arith, rows_long s l n) in
      rw (e, long) (take-append_seam (rows_below s l n) (drop (0 + length (rows_below s l n)) d))

  pub all_told : (d t x y : List ℕ) (r : Totals) → r ≡ totals_below s l (length l)
      → x ≡ over d 0 (rows_below s l (length l))
      → (z : List ℕ) → z ≡ take (6 * length l) x
      → y ≡ over t 0 (tabulate 63 (λ i. count_of (λ k. get_or z (6 * k + 4) 0) (i + 1) (length z / 6)))
      → SurveyTold s l (Ok (totals_below s l (length l))) d t (Ok r) x y
  unfolding after_survey
  all_told d t x y r e f z p g =
      let q : z ≡ rows_below s l (length l) = p ∙ rows_put d x (length l) f in
      let many : length (rows_below s l (length l)) / 6 ≡ length l = omega (arith, rows_long s l (length l)) in
      record {
        told = ap Ok e;
        rows_left = f;
        tally_left =
            g ∙ ap (over t 0) (rows_same 63 _ _ (λ i b.
            ap (λ (c : ℕ). c ∷ []) (rw (q, many)
            (count_same _ _ (i + 1) (length l) (λ k c. number_at (length l) k c)))));
      }

  -- another name of the answer
  told_as : {answer other r : Result Totals Refusal} {d t x y : List ℕ} → answer ≡ other → SurveyTold s l answer d t r x y
      → SurveyTold s l other d t r x y
  told_as e w = rw (← e) w

  module _ (d t : List ℕ) where
    refused_told : (refusal : Refusal) → SurveyTold s l (Err refusal) d t (Err refusal) d t
    unfolding after_survey
    refused_told refusal = record { told = refl; rows_left = refl; tally_left = refl }

    -- ---- 21
    abbrev short : Bool
    short = ltb (length d) (6 * length l) || ltb (length t) 63

    pub room_short : short ≡ true → SurveyTold s l (surveyed_if_room s l (length d) (length t)) d t (Err TooLittleRoom) d t
    unfolding surveyed_if_room
    room_short e = told_as (sym (pick_then _ _ _ e)) (refused_told TooLittleRoom)

    module _ (e : short ≡ false) where
      pub room_rows : 6 * length l ≤ length d
      room_rows = ltb-false _ _ (or_no (ltb (length d) (6 * length l)) (ltb (length t) 63) e).0

      pub room_tally : 63 ≤ length t
      room_tally = ltb-false _ _ (or_no (ltb (length d) (6 * length l)) (ltb (length t) 63) e).1

      pub room_told : (r : Result Totals Refusal) (x y : List ℕ) → SurveyTold s l (Ok (totals_below s l (length l))) d t r x y
          → SurveyTold s l (surveyed_if_room s l (length d) (length t)) d t r x y
      unfolding surveyed_if_room
      room_told r x y w = told_as (sym (pick_else _ _ _ e)) w

    -- ---- 24
    module _ (b : Bool) (e : b ≡ lengths_broken 1024 s l) where
      pub lengths_refused : b ≡ true → SurveyTold s l (survey s l (length d) (length t)) d t (Err LayerLengths) d t
      unfolding survey
      lengths_refused y = told_as (sym (pick_then _ _ _ (sym e ∙ y))) (refused_told LayerLengths)

      pub lengths_told : b ≡ false → (r : Result Totals Refusal) (x y : List ℕ)
          → SurveyTold s l (surveyed_if_room s l (length d) (length t)) d t r x y
          → SurveyTold s l (survey s l (length d) (length t)) d t r x y
      unfolding survey
      lengths_told n r x y w = told_as (sym (pick_else _ _ _ (sym e ∙ n))) w
