-- An example: what the definitions give, and what document 01 has. A file of examples is one statement over a list, and antt
-- computes both sides.
use Rattle.std.specs.Prelude.{◌≡◌, List, map}

pub record Example (A : Type 0) : Type 0 where
  pub gives : A
  pub wants : A

abbrev pub example : {A : Type 0} → A → A → Example A
example gives wants = record { gives = gives; wants = wants }

abbrev pub Hold : {A : Type 0} → List (Example A) → Type 0
Hold {A} examples = map (λ (e : Example A). e.gives) examples ≡ map (λ (e : Example A). e.wants) examples
