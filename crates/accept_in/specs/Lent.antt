-- What the parts of the second check leave, in their answers and in the lent words.
use Rattle.std.specs.Prelude.{ℕ, ◌≡◌, List, Bool, length}
use Rattle.base.specs.Pick.{pick}
use Rattle.base.specs.Bytes.{zeros}
use Rattle.format.specs.Areas.{Area, meet}
use Rattle.format.specs.CheckIn.{marked_sectors, check_in, list_after_check}
use Rattle.format.specs.declared.Header.{Header}
use Rattle.format.specs.declared.Refusal.{Refusal}
use Rattle.format.specs.declared.Refusal.TheVariants.{SharedSector}
use Rattle.format.specs.declared.MarkedAnswer.{MarkedAnswer}
use Rattle.std.specs.Prelude.{Err}
use Rattle.format.specs.AnswerParts.{accepted_as}

-- the areas were marked in words that are zero afterwards
pub record Told (l : List Area) (before after : List ℕ) (met : Bool) (marked : ℕ) : Type 0 where
  pub meets : met ≡ meet l
  pub counted : marked ≡ marked_sectors l
  pub cleared : after ≡ zeros (length before)

-- the answers: 12 or acceptance by what marking told, and a refusal before 12
unfoldable pub answer_of : Header → Bool → ℕ → MarkedAnswer
answer_of h met marked =
    pick met (record { checked = Err SharedSector; marked = marked })
    (record { checked = accepted_as h.capacity h.grain_size; marked = marked })

abbrev pub unmarked_by : Refusal → MarkedAnswer
unmarked_by r = record { checked = Err r; marked = 0 }

-- the whole call
pub record Lent (s list : List ℕ) (r : MarkedAnswer) (after : List ℕ) : Type 0 where
  pub answer : r ≡ check_in s (length list)
  pub kept : after ≡ list_after_check s list
