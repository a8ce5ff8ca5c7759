-- What it means that sectors are marked in a list of words of 64 bits: bit k of word j stands for sector 64 * j + k.
-- A run is the sectors from `from` to below `end`.
use Rattle.std.specs.Prelude.{ℕ, ◌+◌, ◌*◌, ◌/◌, ◌%◌, ◌^◌, ◌≤◌, ◌<◌, ◌≡◌, Bool, true, false, List, length, get_or}

-- bit k of w, 0 or 1
abbrev pub bit : ℕ → ℕ → ℕ
bit w k = w / 2 ^ k % 2

-- 1 where sector s is marked, and 0 where not
abbrev pub marked : List ℕ → ℕ → ℕ
marked ws s = bit (get_or ws (s / 64) 0) (s % 64)

-- ---- runs
-- the run lies in the words, whose sectors can be counted in 64 bits
pub record Room (ws : List ℕ) (from end : ℕ) : Type 0 where
  pub ordered : from ≤ end
  pub within : end ≤ 64 * length ws
  pub counted : 64 * length ws < 2 ^ 64

-- no sector of the run is marked
abbrev pub Free : List ℕ → ℕ → ℕ → Type 0
Free ws from end = (s : ℕ) → from ≤ s → s < end → marked ws s ≡ 0

-- some sector of the run is marked
abbrev pub Taken : List ℕ → ℕ → ℕ → Type 0
Taken ws from end = (s : ℕ) × (from ≤ s) × (s < end) × (marked ws s ≡ 1)

-- `after` is `before` with the sectors of the run, and no others, marked in addition
pub record Put (before after : List ℕ) (from end : ℕ) : Type 0 where
  pub size : length after ≡ length before
  pub inside : (s : ℕ) → from ≤ s → s < end → marked after s ≡ 1
  pub under : (s : ℕ) → s < from → marked after s ≡ marked before s
  pub over : (s : ℕ) → end ≤ s → marked after s ≡ marked before s

-- what marking a run answers and does: true, and it was free and is marked now; or false, and it was taken and nothing is
-- changed
pub record Marking (before after : List ℕ) (from end : ℕ) (r : Bool) : Type 0 where
  pub was_free : r ≡ true → Free before from end
  pub now_put : r ≡ true → Put before after from end
  pub was_taken : r ≡ false → Taken before from end
  pub unchanged : r ≡ false → after ≡ before

-- ---- on the way there
-- what testing a run answers
pub record Tested (ws : List ℕ) (from end : ℕ) (r : Bool) : Type 0 where
  pub free : r ≡ true → Free ws from end
  pub taken : r ≡ false → Taken ws from end

-- r, as the word of the 64 sectors from `base` on, has just those of the run marked
pub record Mask (base from end r : ℕ) : Type 0 where
  pub inside : (k : ℕ) → k < 64 → from ≤ base + k → base + k < end → bit r k ≡ 1
  pub under : (k : ℕ) → k < 64 → base + k < from → bit r k ≡ 0
  pub over : (k : ℕ) → k < 64 → end ≤ base + k → bit r k ≡ 0
