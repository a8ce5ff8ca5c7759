-- Numbers in bytes, little-endian, at any width.
use Rattle.std.specs.Prelude.{ℕ, zero, suc, ◌+◌, ◌*◌, ◌/◌, ◌%◌, List, [], ◌∷◌, get_or}

-- the number of n bytes that stand from `at` on, lowest byte first. A byte past the end counts 0, and no answer depends on one
unfoldable pub le_at : List ℕ → ℕ → ℕ → ℕ
le_at s at zero = 0
le_at s at (suc n) = get_or s at 0 + 256 * le_at s (at + 1) n

-- the n bytes of v, lowest first
unfoldable pub le_bytes : ℕ → ℕ → List ℕ
le_bytes zero v = []
le_bytes (suc n) v = v % 256 ∷ le_bytes n (v / 256)
