-- Bytes, or words, written over a part of a list, and those that two lists agree in.
use Rattle.std.specs.Prelude.{ℕ, ◌+◌, ◌≤◌, ◌<◌, ◌≡◌, List, ◌++◌, length, get_or, take, drop, replicate}

-- d with vs written over it from `at` on
unfoldable pub over : List ℕ → ℕ → List ℕ → List ℕ
over d at vs = take at d ++ vs ++ drop (at + length vs) d

-- n zeros
unfoldable pub zeros : ℕ → List ℕ
zeros n = replicate n 0

-- s and t agree in the n bytes from `at` on
abbrev pub SameBytes : List ℕ → List ℕ → ℕ → ℕ → Type 0
SameBytes s t at n = (i : ℕ) → at ≤ i → i < at + n → get_or s i 0 ≡ get_or t i 0
