-- How many sectors are marked in a list of words.
use Rattle.std.specs.Prelude.{ℕ, ◌*◌, ◌≡◌, List, length}
use Rattle.base.specs.SumsBelow.{sum_below}
use Rattle.base.specs.Bytes.{zeros}
use Rattle.marks.specs.Marks.{marked}

unfoldable pub marked_count : List ℕ → ℕ
marked_count ws = sum_below (marked ws) (64 * length ws)

-- the words were counted, and are zero now
pub record Emptied (before after : List ℕ) (count : ℕ) : Type 0 where
  pub counted : count ≡ marked_count before
  pub cleared : after ≡ zeros (length before)
