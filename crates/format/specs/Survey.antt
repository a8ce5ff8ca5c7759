-- How full images are: the grains of each kind, image by image, the totals, and how many images each number refuses.
use Rattle.std.specs.Prelude.{ℕ, zero, suc, ◌+◌, ◌*◌, List, [], ◌∷◌, Bool, ◌||◌, ltb, eqb, length}
use Rattle.base.specs.Pick.{pick}
use Rattle.base.specs.Bytes.{over}
use Rattle.base.specs.Rows.{rows, tabulate}
use Rattle.format.specs.Header.{header_of, grains_of}
use Rattle.format.specs.Entries.{grain_entry}
use Rattle.format.specs.Check.{check}
use Rattle.format.specs.Chain.{layer_at, lengths_broken}
use Rattle.format.specs.Answers.{number, place}
use Rattle.format.specs.declared.Header.{Header}
use Rattle.format.specs.declared.Row.{Row}
use Rattle.format.specs.declared.Totals.{Totals}
use Rattle.format.specs.declared.Entry.{Entry}
use Rattle.format.specs.declared.Entry.TheVariants.{Absent, Zero, Sector}
use Rattle.format.specs.declared.Refusal.TheVariants.{TooLittleRoom, LayerLengths}
use Rattle.std.specs.Prelude.{Result, Ok, Err}
use Rattle.format.specs.declared.Shape.{Shape}
use Rattle.format.specs.declared.Refusal.{Refusal}

-- ---- the kind of a grain by the entry table, numbered as the lookup's answer numbers it: 0 absent, 1 zero, 2 stored, 3 packed
unfoldable pub entry_kind : Bool → Entry → ℕ
entry_kind packed Absent = 0
entry_kind packed Zero = 1
entry_kind packed (Sector e) = pick packed 3 2

abbrev pub grain_kind : List ℕ → Header → ℕ → ℕ
grain_kind s h g = entry_kind h.packed (grain_entry s h g)

-- for how many of the numbers below n f gives v
unfoldable pub count_of : (ℕ → ℕ) → ℕ → ℕ → ℕ
count_of f v zero = 0
count_of f v (suc n) = count_of f v n + pick (eqb (f n) v) 1 0

abbrev pub grains_of_kind : List ℕ → Header → ℕ → ℕ
grains_of_kind s h kind = count_of (grain_kind s h) kind (grains_of h)

-- ---- the row of an image: four zeros, its number and place where the check refuses it
unfoldable pub row_from : List ℕ → Header → Result Shape Refusal → Row
row_from s h (Ok sizes) =
    record {
      stored = grains_of_kind s h 2;
      zero = grains_of_kind s h 1;
      absent = grains_of_kind s h 0;
      packed = grains_of_kind s h 3;
      number = 0;
      place = 0;
    }
row_from s h (Err r) =
    record { stored = 0; zero = 0; absent = 0; packed = 0; number = number r; place = place r }

abbrev pub row_of : List ℕ → Row
row_of s = row_from s (header_of s) (check s)

-- image k of those that stand end to end
abbrev pub row_at : List ℕ → List ℕ → ℕ → Row
row_at images lengths k = row_of (layer_at images lengths k)

-- ---- the list of rows, six words an image
unfoldable pub row_words : Row → List ℕ
row_words r = r.stored ∷ r.zero ∷ r.absent ∷ r.packed ∷ r.number ∷ r.place ∷ []

abbrev pub rows_below : List ℕ → List ℕ → ℕ → List ℕ
rows_below images lengths n = rows n (λ k. row_words (row_at images lengths k))

-- ---- the tally: word i is the number of rows with number i + 1, for the numbers 1 to 63
abbrev pub tally_below : List ℕ → List ℕ → ℕ → List ℕ
tally_below images lengths n = tabulate 63 (λ i. count_of (λ k. (row_at images lengths k).number) (i + 1) n)

-- ---- the totals: the rows' sums. A refused image adds four zeros
unfoldable pub add_row : Totals → Row → Totals
add_row t r =
    record {
      stored = t.stored + r.stored;
      zero = t.zero + r.zero;
      absent = t.absent + r.absent;
      packed = t.packed + r.packed;
    }

unfoldable pub totals_below : List ℕ → List ℕ → ℕ → Totals
totals_below images lengths zero = record { stored = 0; zero = 0; absent = 0; packed = 0 }
totals_below images lengths (suc n) = add_row (totals_below images lengths n) (row_at images lengths n)

-- ---- the answer, where the lists have so many words: 24, with 1,024 images at most, then 21
unfoldable pub surveyed_if_room : List ℕ → List ℕ → ℕ → ℕ → Result Totals Refusal
surveyed_if_room images lengths rows_room tally_room =
    pick (ltb rows_room (6 * length lengths) || ltb tally_room 63) (Err TooLittleRoom)
    (Ok (totals_below images lengths (length lengths)))

unfoldable pub survey : List ℕ → List ℕ → ℕ → ℕ → Result Totals Refusal
survey images lengths rows_room tally_room =
    pick (lengths_broken 1024 images lengths) (Err LayerLengths) (surveyed_if_room images lengths rows_room tally_room)

-- ---- the lent lists: the words from their start on, and what they held past them; on a refusal all that they held
unfoldable pub after_survey : Result Totals Refusal → List ℕ → List ℕ → List ℕ
after_survey (Ok t) words list = over list 0 words
after_survey (Err r) words list = list

abbrev pub survey_rows : List ℕ → List ℕ → List ℕ → List ℕ → List ℕ
survey_rows images lengths row_list tally =
    after_survey (survey images lengths (length row_list) (length tally)) (rows_below images lengths (length lengths)) row_list

abbrev pub survey_tally : List ℕ → List ℕ → List ℕ → List ℕ → List ℕ
survey_tally images lengths row_list tally =
    after_survey (survey images lengths (length row_list) (length tally)) (tally_below images lengths (length lengths)) tally
