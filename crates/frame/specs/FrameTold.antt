-- What the frame's parts answer, and leave in the list.
use Rattle.std.specs.Prelude.{ℕ, ◌≡◌, List}
use Rattle.format.specs.Frame.{list_after}
use Rattle.std.specs.Prelude.{Result}
use Rattle.format.specs.declared.Refusal.{Refusal}

-- the answer is r, and the list that held `before` holds `after`: the words where they were put, else what it held
pub record FrameTold (answer : Result ℕ Refusal) (words before : List ℕ) (r : Result ℕ Refusal) (after : List ℕ) : Type 0 where
  pub told : r ≡ answer
  pub left : after ≡ list_after answer words before
