-- Marking areas one after another in a window: bit i of the words stands for file sector lo + i.
use Rattle.std.specs.Prelude.{ℕ, ◌+◌, ◌*◌, ◌-◌, ◌^◌, ◌≤◌, ◌<◌, min, ◌≡◌, List, [], ◌∷◌, Bool, true, false, length}
use Rattle.format.specs.Areas.{Area, holders}
use Rattle.marks.specs.Marks.{Free, Taken, Put}

-- the bit of sector x, which is moved to the window's edge where it lies outside
abbrev pub clip : ℕ → List ℕ → ℕ → ℕ
clip lo ws x = min (x - lo) (64 * length ws)

-- the bits of an area's part in the window: from `low` to below `high`
abbrev pub low : ℕ → List ℕ → Area → ℕ
low lo ws a = clip lo ws a.first

abbrev pub high : ℕ → List ℕ → Area → ℕ
high lo ws a = clip lo ws (a.first + a.sector_count)

-- marking the areas turns the words ws into ys. r is true if one met a sector that was marked: it and those after it are not
-- marked
pub data Run (lo : ℕ) : List ℕ → List Area → List ℕ → Bool → Type 0 where
  done : {ws : List ℕ} → Run lo ws [] ws false
  next : {ws xs ys : List ℕ} {a : Area} {l : List Area} {r : Bool}
      → Free ws (low lo ws a) (high lo ws a)
      → Put ws xs (low lo ws a) (high lo ws a)
      → Run lo xs l ys r
      → Run lo ws (a ∷ l) ys r
  met : {ws : List ℕ} {a : Area} {l : List Area} → Taken ws (low lo ws a) (high lo ws a) → Run lo ws (a ∷ l) ws true

-- the sectors of the words can be counted in 64 bits
abbrev pub Counted : List ℕ → Type 0
Counted ws = 64 * length ws < 2 ^ 64

-- what one window tells of the areas: that some sector lies in two, or that none of the window does
pub record Window (l : List Area) (lo : ℕ) (r : Bool) : Type 0 where
  pub met : r ≡ true → (x : ℕ) × (2 ≤ holders l x)
  pub free : r ≡ false → (x : ℕ) → lo ≤ x → x < lo + 8388608 → holders l x ≤ 1
