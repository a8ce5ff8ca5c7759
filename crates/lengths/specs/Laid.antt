-- What is known of a list of lengths once 24 was judged, and where a part of the slice ends.
use Rattle.std.specs.Prelude.{ℕ, ◌≤◌, ◌≡◌, List, length, take}
use Rattle.format.specs.Chain.{lengths_sum}

-- 24 is not given
pub record Laid (most : ℕ) (s lengths : List ℕ) : Type 0 where
  pub some : 1 ≤ length lengths
  pub few : length lengths ≤ most
  pub whole : lengths_sum lengths ≡ length s

-- the first k layers end at byte `end`
pub record Ends (s lengths : List ℕ) (k end : ℕ) : Type 0 where
  pub few : k ≤ length lengths
  pub there : end ≡ lengths_sum (take k lengths)
  pub inside : end ≤ length s
