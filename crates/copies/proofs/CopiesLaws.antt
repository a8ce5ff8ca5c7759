-- What comparing copies asks on its way, each premise as the code gives it.
use Prim.Native.Nat.{ℕ, suc, ◌+◌, ◌-◌, ◌*◌, ◌/◌, ◌%◌, ◌≤◌, ◌<◌, min}
use mathlib.Core.Path.{◌≡◌, refl, sym, ◌∙◌}
use mathlib.Core.List.{List}
use mathlib.Core.Bool.{Bool, true, false}
use native.Mathlib.Omega.{arith}
use lib.ListN.{length}
use lib.Dec.{eqb, leb}
use borrow.Author.Tests.{eq-eqb, ne_eqb, le-leb}
use Rattle.base.specs.Pick.{pick}
use Rattle.base.specs.Rounding.{ceil}
use Rattle.blocks.specs.Blocks.{any_from, PastBlocks}
use Rattle.blocks.proofs.BlockLaws.{run_here, run_next, pairs_run}
use Rattle.format.proofs.Entries.{no_some}
use Rattle.format.specs.Geometry.{grains}
use Rattle.format.specs.Header.{directory_entries_of}
use Rattle.format.specs.Entries.{meaning_at, any_below}
use Rattle.format.specs.Check.{tables_differ, copy_differs, copies_differ}
use Rattle.format.specs.declared.Header.{Header}
use Rattle.format.specs.declared.Entry.{Entry}
use Rattle.format.specs.declared.Entry.TheVariants.{Absent, Zero, Sector}

-- ---- room for the entries that are compared
-- a table that an entry names has room for n of them
abbrev pub Room : List ℕ → ℕ → Entry → Type 0
Room s n a = (t : ℕ) → a ≡ Sector t → 512 * t + 4 * n ≤ length s

pub room_at : (s : List ℕ) (n t : ℕ) (a : Entry) → Room s n a → a ≡ Sector t → 512 * t + 4 * n ≤ length s
room_at s n t a f e = f t e

-- ---- tables
-- the last entry alone is left
pub last_entry : {r : Bool} (p : ℕ → Bool) (k n : ℕ) → any_below p k ≡ false → k < n → n ≤ k + 1 → r ≡ p k → r ≡ any_below p n
unfolding any_below
last_entry p k n b l h e = let q : n ≡ suc k = omega arith in rw (q, b) e

-- what is left of two tables after the blocks: m pairs, and one entry where their number is odd
module _ (p : ℕ → Bool) {r : Bool} (from n m : ℕ) (e : r ≡ any_below (λ i. any_from p (from + 2 * i) 2) m)
    (em : m ≡ (n - from) / 2) (l : from ≤ n) where
  run : r ≡ any_from p from (2 * m)
  run = e ∙ pairs_run p from m

  pub pairs_here : r ≡ true → r ≡ any_below p n
  pairs_here t = t ∙ run_here p from (2 * m) run n l (omega arith) t

  module _ (b : any_below p from ≡ false) (f : r ≡ false) where
    pub pairs_odd : {q : Bool} → (n - from) % 2 ≡ 1 → q ≡ p (n - 1) → q ≡ any_below p n
    pairs_odd odd q =
        let k : from + 2 * m ≡ n - 1 = omega arith in
        last_entry p (n - 1) n (rw k at (run_next p from (2 * m) run b f)) (omega arith) (omega arith) q

    pub pairs_even : ((n - from) % 2 ≡ 1 → ⊥) → eqb ((n - from) % 2) 1 ≡ any_below p n
    pairs_even even =
        let k : from + 2 * m ≡ n = omega arith in
        rw (ne_eqb ((n - from) % 2) 1 even) (sym (rw k at (run_next p from (2 * m) run b f)))

-- the blocks
module _ (p : ℕ → Bool) {n k : ℕ} (z : PastBlocks p 0 n k) where
  pub none_before : (k ≤ n) × (any_below p k ≡ false)
  none_before = (z.high, no_some p k (λ j l. z.none j (omega arith) l))

  pub block_here : 16 ≤ n - k → leb 16 (n - k) ≡ any_below p n
  block_here l = le-leb 16 (n - k) l ∙ run_here p k 16 (sym (z.stopped l)) n z.high l refl

-- ---- two entries
module _ (s : List ℕ) (n : ℕ) (a b : Entry) where
  -- at an arm of a match
  pub both_absent : a ≡ Absent → b ≡ Absent → false ≡ copy_differs s n a b
  unfolding copy_differs
  both_absent e q = rw (e, q)

  pub both_zero : a ≡ Zero → b ≡ Zero → false ≡ copy_differs s n a b
  unfolding copy_differs
  both_zero e q = rw (e, q)

  pub both_named : (z : Bool) (t u : ℕ) → a ≡ Sector t → b ≡ Sector u → z ≡ tables_differ s t u n → z ≡ copy_differs s n a b
  unfolding copy_differs
  both_named z t u e q d = rw (e, q) d

  -- at the last arm
  pub absent_alone : a ≡ Absent → (b ≡ Absent → ⊥) → true ≡ copy_differs s n a b
  unfolding copy_differs
  absent_alone e other = rw e (alone b other)
    where
      alone : (b : Entry) → (b ≡ Absent → ⊥) → true ≡ copy_differs s n Absent b
      alone Absent other = absurd (other refl)
      alone Zero other = refl
      alone (Sector u) other = refl

  pub zero_alone : a ≡ Zero → (b ≡ Zero → ⊥) → true ≡ copy_differs s n a b
  unfolding copy_differs
  zero_alone e other = rw e (alone b other)
    where
      alone : (b : Entry) → (b ≡ Zero → ⊥) → true ≡ copy_differs s n Zero b
      alone Absent other = refl
      alone Zero other = absurd (other refl)
      alone (Sector u) other = refl

  pub named_alone : (t : ℕ) → a ≡ Sector t → ((u : ℕ) → b ≡ Sector u → ⊥) → true ≡ copy_differs s n a b
  unfolding copy_differs
  named_alone t e other = rw e (alone b other)
    where
      alone : (b : Entry) → ((u : ℕ) → b ≡ Sector u → ⊥) → true ≡ copy_differs s n (Sector t) b
      alone Absent other = refl
      alone Zero other = refl
      alone (Sector u) other = absurd (other u refl)

-- ---- all entries in use, where there is a redundant directory and where not
pub no_copies : (s : List ℕ) (h : Header) → h.redundant ≡ 0 → false ≡ copies_differ s h
unfolding copies_differ pick
no_copies s h none = rw (eq-eqb h.redundant 0 none)

pub both_compared : {r : Bool} (s : List ℕ) (h : Header) (n g : ℕ) → (h.redundant ≡ 0 → ⊥) → n ≡ directory_entries_of h → g
    ≡ ceil h.capacity h.grain_size
    → r ≡ any_below (λ d. copy_differs s (min h.entries_per_table (g - d * h.entries_per_table))
    (meaning_at s h.one_is_zero h.directory d) (meaning_at s h.one_is_zero h.redundant d)) n
    → r ≡ copies_differ s h
unfolding copies_differ pick grains
both_compared s h n g one e q t = rw (ne_eqb h.redundant 0 one, ← e) (simp q at t)
