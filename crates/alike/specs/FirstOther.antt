-- What a comparison with bytes that are to stand somewhere finds.
use Rattle.std.specs.Prelude.{ℕ, ◌+◌, ◌≤◌, ◌<◌, ◌≡◌, List, length, get_or}

-- r is the first place from `at` on where s does not have the bytes of w; where it has them all, the end of w
pub record FirstOther (s : List ℕ) (at : ℕ) (w : List ℕ) (r : ℕ) : Type 0 where
  pub low : at ≤ r
  pub high : r ≤ at + length w
  pub same : (i : ℕ) → at + i < r → get_or s (at + i) 0 ≡ get_or w i 0
  pub other : (i : ℕ) → at + i ≡ r → i < length w → get_or s (at + i) 0 ≡ get_or w i 0 → ⊥

-- of the n bytes from `at` on the first r are 0
pub record ZerosTo (s : List ℕ) (at n r : ℕ) : Type 0 where
  pub high : r ≤ n
  pub zeros : (i : ℕ) → i < r → get_or s (at + i) 0 ≡ 0
