-- What the rows, the tally and the lists of a survey hold, by the check of each image.
use Prim.Native.Nat.{ℕ, zero, suc, ◌+◌, ◌*◌, ◌≤◌, ◌<◌}
use mathlib.Core.Path.{◌≡◌, refl, ap, ◌∙◌}
use mathlib.Core.List.{List}
use native.Mathlib.Omega.{arith}
use native.Mathlib.Nat.{zero-add}
use mathlib.Core.Logic.{⊎_elim}
use borrow.Author.Tests.{eq-eqb, ne_eqb}
use Rattle.base.proofs.Steps.{lt_or_ge}
use lib.Dec.{eqb}
use lib.ListN.{length, get_or, drop}
use lib.Seq.{get_or-append-add, get_or-drop}
use Rattle.base.specs.Pick.{pick}
use Rattle.base.specs.Bytes.{over}
use Rattle.base.proofs.Rows.{rows_length, row_at_lem}
use Rattle.base.proofs.Stands.{Stands, stands_left}
use Rattle.format.specs.Header.{header_of}
use Rattle.format.specs.Check.{check}
use Rattle.format.specs.Chain.{layer_at}
use Rattle.format.specs.Answers.{number, place, verdict}
use Rattle.format.specs.Survey.{count_of, row_from, row_of, row_at, row_words, rows_below}
use Rattle.format.specs.Survey.{survey, after_survey, survey_rows, survey_tally}
use Rattle.format.specs.declared.Row.{Row}
use Rattle.format.specs.declared.Totals.{Totals}
use Rattle.format.specs.declared.Refusal.{Refusal}
use Rattle.format.specs.declared.Refusal.TheVariants.{TooShort, Magic, Version, Newline, Flags, Sizes, Footer, Misplaced}
use Rattle.format.specs.declared.Refusal.TheVariants.{GrainPast, Marker, CopiesDiffer, SharedSector, SectorPast}
use Rattle.format.specs.declared.Refusal.TheVariants.{TooLittleRoom, LayersDiffer, NotCollapsible, LayerLengths, StillOpen}
use Rattle.format.specs.declared.Refusal.TheVariants.{NotMendable, NotClosable, NotNormal, KindGone, NotMovable, ProfileSizes}
use Rattle.base.specs.SumsBelow.{sum_below}
use Rattle.std.specs.Prelude.{Result, Ok, Err}
use Rattle.format.specs.declared.Shape.{Shape}
use Rattle.format.specs.AnswerParts.{accepted_as}

-- ---- number and place of a row are the check's
row_told : (s : List ℕ) (a : Result Shape Refusal) → ((row_from s (header_of s) a).number ≡ (verdict a).number)
    × ((row_from s (header_of s) a).place ≡ (verdict a).place)
unfolding row_from
row_told s (Ok sizes) = (refl, refl)
row_told s (Err r) = (refl, refl)

pub survey_number : (s : List ℕ) → ((row_of s).number ≡ (verdict (check s)).number)
    × ((row_of s).place ≡ (verdict (check s)).place)
survey_number s = row_told s (check s)

-- a refused image has four zeros, an accepted one number and place 0
pub survey_refused_lem : (s : List ℕ) (r : Refusal) → check s ≡ Err r
    → row_of s ≡ record { stored = 0; zero = 0; absent = 0; packed = 0; number = number r; place = place r }
unfolding row_from
survey_refused_lem s r e = rw e

pub survey_accepted : (s : List ℕ) (c size : ℕ) → check s ≡ accepted_as c size
    → ((row_of s).number ≡ 0) × ((row_of s).place ≡ 0)
survey_accepted s c size e =
    let r = survey_number s in (
      r.0 ∙ ap (λ (a : Result Shape Refusal). (verdict a).number) e,
      r.1
          ∙ ap (λ (a : Result Shape Refusal). (verdict a).place) e,
    )

-- ---- every refusal has its word in the tally
number_few : (r : Refusal) → (1 ≤ number r) × (number r ≤ 63)
number_few TooShort = (omega arith, omega arith)
number_few Magic = (omega arith, omega arith)
number_few Version = (omega arith, omega arith)
number_few Newline = (omega arith, omega arith)
number_few Flags = (omega arith, omega arith)
number_few Sizes = (omega arith, omega arith)
number_few Footer = (omega arith, omega arith)
number_few (Misplaced part) = (omega arith, omega arith)
number_few (GrainPast g) = (omega arith, omega arith)
number_few (Marker g) = (omega arith, omega arith)
number_few CopiesDiffer = (omega arith, omega arith)
number_few SharedSector = (omega arith, omega arith)
number_few SectorPast = (omega arith, omega arith)
number_few TooLittleRoom = (omega arith, omega arith)
number_few LayersDiffer = (omega arith, omega arith)
number_few NotCollapsible = (omega arith, omega arith)
number_few LayerLengths = (omega arith, omega arith)
number_few StillOpen = (omega arith, omega arith)
number_few NotMendable = (omega arith, omega arith)
number_few NotClosable = (omega arith, omega arith)
number_few (NotNormal byte) = (omega arith, omega arith)
number_few KindGone = (omega arith, omega arith)
number_few NotMovable = (omega arith, omega arith)
number_few ProfileSizes = (omega arith, omega arith)

verdict_few : (a : Result Shape Refusal) → (verdict a).number ≤ 63
verdict_few (Ok sizes) = omega arith
verdict_few (Err r) = (number_few r).1

-- a number up to m is one of 1 to m, or 0
words_none : (v m : ℕ) → m < v → sum_below (λ i. pick (eqb v (i + 1)) 1 0) m ≡ 0
unfolding sum_below pick
words_none v zero h = refl
words_none v (suc m) h = rw (words_none v m (omega arith), ne_eqb v (m + 1) (λ e. omega arith))

one_word : (v m : ℕ) → v ≤ m → sum_below (λ i. pick (eqb v (i + 1)) 1 0) m + pick (eqb v 0) 1 0 ≡ 1
unfolding sum_below pick
one_word v zero h = let e : v ≡ 0 = omega arith in rw (eq-eqb v 0 e)
one_word v (suc m) h =
    ⊎_elim
    (λ l.
    let none = words_none v m l in
    let e : v ≡ m + 1 = omega arith in
    let n : v ≡ 0 → ⊥ = λ q. omega arith in
    rw (none, eq-eqb v (m + 1) e, ne_eqb v 0 n))
    (λ l. let n : v ≡ m + 1 → ⊥ = λ q. omega arith in rw (ne_eqb v (m + 1) n) (omega (arith, one_word v m l)))
    (lt_or_ge m v)

sum_add : (a b : ℕ → ℕ) (m : ℕ) → sum_below (λ i. a i + b i) m ≡ sum_below a m + sum_below b m
unfolding sum_below
sum_add a b zero = refl
sum_add a b (suc m) = omega (arith, sum_add a b m)

sum_none : (m : ℕ) → sum_below (λ i. 0) m ≡ 0
unfolding sum_below
sum_none zero = refl
sum_none (suc m) = omega (arith, sum_none m)

tallied : (f : ℕ → ℕ) → ((k : ℕ) → f k ≤ 63) → (n : ℕ) → sum_below (λ i. count_of f (i + 1) n) 63 + count_of f 0 n ≡ n
unfolding count_of
tallied f few zero = omega (arith, sum_none 63)
tallied f few (suc n) =
    omega (
      arith,
      sum_add (λ i. count_of f (i + 1) n) (λ i. pick (eqb (f n) (i + 1)) 1 0) 63,
      tallied f few n,
      one_word (f n) 63 (few n),
    )

-- each image is accepted or has its place in the tally
pub survey_images : (s l : List ℕ) (n : ℕ)
    → sum_below (λ i. count_of (λ k. (row_at s l k).number) (i + 1) n) 63 + count_of (λ k. (row_at s l k).number) 0 n ≡ n
survey_images s l n =
    tallied (λ k. (row_at s l k).number)
    (λ k. omega (arith, (survey_number (layer_at s l k)).0, verdict_few (check (layer_at s l k)))) n

-- ---- the lists, where the survey answers: row k stands from word 6 x k on, and words past the last row are kept
module _ (s l d t : List ℕ) where
  module _ (all : Totals) (e : survey s l (length d) (length t) ≡ Ok all) where
    rows_are : survey_rows s l d t ≡ over d 0 (rows_below s l (length l))
    unfolding after_survey
    rows_are = rw e

    row_six : (r : Row) → length (row_words r) ≡ 6
    unfolding row_words
    row_six r = refl

    pub survey_row : (k j : ℕ) → k < length l → j < 6 → get_or (survey_rows s l d t) (k * 6 + j) 0
        ≡ get_or (row_words (row_at s l k)) j 0
    unfolding over
    survey_row k j b c =
        let row : Stands (rows_below s l (length l)) (k * 6) (row_words (row_at s l k)) =
        row_at_lem (length l) 6 (λ i. row_words (row_at s l i)) (λ i m. row_six (row_at s l i)) k b in
        let here = stands_left (rows_below s l (length l)) (drop (0 + length (rows_below s l (length l))) d) row in
        rw rows_are (here.same j (omega (arith, row_six (row_at s l k))))

    pub survey_past : (i : ℕ) → get_or (survey_rows s l d t) (length l * 6 + i) 0 ≡ get_or d (length l * 6 + i) 0
    unfolding over
    survey_past i =
        let long : length (rows_below s l (length l)) ≡ length l * 6 =
        rows_length (length l) 6 _ (λ k b. row_six (row_at s l k)) in
        let at = get_or-append-add (rows_below s l (length l)) (drop (0 + length (rows_below s l (length l))) d) i 0 in
        rw (rows_are, ← long) (at ∙ get_or-drop (0 + length (rows_below s l (length l))) d i 0 ∙ rw zero-add)

  -- on a refusal all of both
  pub survey_kept : (r : Refusal) → survey s l (length d) (length t) ≡ Err r → (survey_rows s l d t ≡ d)
      × (survey_tally s l d t ≡ t)
  unfolding after_survey
  survey_kept r e = (rw e, rw e)
