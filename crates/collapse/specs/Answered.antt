-- What the calls' parts answer, and what they leave in the output.
use Rattle.std.specs.Prelude.{ℕ, ◌≡◌, List}
use Rattle.format.specs.Header.{header_of}
use Rattle.format.specs.Grains.{merge}
use Rattle.format.specs.Collapse.{map_of, collapse_from, output}
use Rattle.std.specs.Prelude.{Result}
use Rattle.format.specs.declared.Refusal.{Refusal}

-- collapse of two accepted images
abbrev pub collapse_accepted : List ℕ → List ℕ → ℕ → Result ℕ Refusal
collapse_accepted lower upper room = collapse_from (header_of lower) (header_of upper) (merge (map_of lower) (map_of upper))
    room

-- the answer is r, and the output that held `before` holds `after`: the image where it was written, else what it held
pub record Answered (answer : Result ℕ Refusal) (image before : List ℕ) (r : Result ℕ Refusal) (after : List ℕ) : Type 0 where
  pub told : r ≡ answer
  pub left : after ≡ output answer image before
