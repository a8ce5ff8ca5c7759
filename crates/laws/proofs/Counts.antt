-- How many numbers below one have a value: only those numbers count.
use Prim.Native.Nat.{ℕ, zero, suc, ◌<◌}
use mathlib.Core.Path.{◌≡◌, refl}
use native.Mathlib.Omega.{arith}
use Rattle.format.specs.Survey.{count_of}

pub count_same : (f g : ℕ → ℕ) (v n : ℕ) → ((k : ℕ) → k < n → f k ≡ g k) → count_of f v n ≡ count_of g v n
unfolding count_of
count_same f g v zero e = refl
count_same f g v (suc n) e = rw (count_same f g v n (λ k b. e k (omega arith)), e n (omega arith))
