-- What the call's parts answer, and what they leave in the output.
use Rattle.std.specs.Prelude.{ℕ, ◌≡◌, List, ltb, length}
use Rattle.base.specs.Pick.{pick}
use Rattle.format.specs.Stream.{kept_grains, kept_sectors}
use Rattle.format.specs.Close.{tail_length, tail_written}
use Rattle.format.specs.declared.Header.{Header}
use Rattle.format.specs.declared.Refusal.TheVariants.{TooLittleRoom}
use Rattle.std.specs.Prelude.{Result, Err}
use Rattle.format.specs.declared.Refusal.{Refusal}
use Rattle.format.specs.declared.closing.Kept.{Kept}
use Rattle.format.specs.AnswerParts.{closed_as}

-- of a stream that can be closed: 21, or the tail is written
abbrev pub closed_if_room : List ℕ → Header → ℕ → Result Kept Refusal
closed_if_room s h room =
    pick (ltb room (tail_length s h)) (Err TooLittleRoom)
    (closed_as (kept_sectors s h) (length (kept_grains s h)) (tail_length s h))

-- the answer is r, and the output that held `before` holds `after`: the tail where it was written, else what it held
pub record ClosedAs (answer : Result Kept Refusal) (tail before : List ℕ) (r : Result Kept Refusal)
    (after : List ℕ) : Type 0 where
  pub told : r ≡ answer
  pub left : after ≡ tail_written answer tail before
