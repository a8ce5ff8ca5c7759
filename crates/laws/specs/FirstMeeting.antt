-- The first area of a list that meets an earlier one, and the sum of those before it.
use Rattle.std.specs.Prelude.{ℕ, ◌≤◌, ◌≡◌, List, ◌∷◌, ◌++◌}
use Rattle.format.specs.Areas.{Area, holds, holders, Apart}
use Rattle.format.specs.CheckIn.{sectors_of}

pub record FirstMeeting (l : List Area) (marked : ℕ) : Type 0 where
  pub before : List Area
  pub meeting : Area
  pub after : List Area
  pub split : l ≡ before ++ meeting ∷ after
  -- of those before it no two meet, and it shares a sector with one of them
  pub apart : Apart before
  pub meets : (x : ℕ) × (holds meeting x ≡ 1) × (1 ≤ holders before x)
  pub counted : marked ≡ sectors_of before
