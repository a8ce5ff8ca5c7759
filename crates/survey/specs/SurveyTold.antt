-- What the survey's parts answer, and what they leave in the lists.
use Rattle.std.specs.Prelude.{ℕ, ◌≡◌, List, length}
use Rattle.format.specs.Survey.{rows_below, tally_below, after_survey}
use Rattle.std.specs.Prelude.{Result}
use Rattle.format.specs.declared.Totals.{Totals}
use Rattle.format.specs.declared.Refusal.{Refusal}

-- the answer is r, and the lists that held d and t hold x and y
pub record SurveyTold (s l : List ℕ) (answer : Result Totals Refusal) (d t : List ℕ) (r : Result Totals Refusal)
    (x y : List ℕ) : Type 0 where
  pub told : r ≡ answer
  pub rows_left : x ≡ after_survey answer (rows_below s l (length l)) d
  pub tally_left : y ≡ after_survey answer (tally_below s l (length l)) t
