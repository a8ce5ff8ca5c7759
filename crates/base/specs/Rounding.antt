-- Rounding up, and powers of two.
use Rattle.std.specs.Prelude.{ℕ, zero, suc, ◌+◌, ◌-◌, ◌/◌, ◌^◌, Bool, ◌||◌, eqb}

-- a / b, rounded up, for b that is not 0: sizes are judged (6) before anything is divided by them
abbrev pub ceil : ℕ → ℕ → ℕ
ceil a b = (a + b - 1) / b

-- n is one of 2 ^ 0, 2 ^ 1, .. 2 ^ k
unfoldable pub power_up_to : ℕ → ℕ → Bool
power_up_to zero n = eqb n 1
power_up_to (suc k) n = eqb n (2 ^ suc k) || power_up_to k n
