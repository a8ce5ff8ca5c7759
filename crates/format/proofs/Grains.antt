-- What grains take in a written image: bytes past capacity, one grain over another, and stored grains counted.
use Prim.Native.Nat.{ℕ, zero, suc, ◌+◌, ◌*◌, ◌≤◌, ◌<◌}
use mathlib.Core.Path.{◌≡◌, refl, sym, ap, ◌∙◌}
use mathlib.Core.Bool.{Bool, true, false}
use mathlib.Core.List.{List}
use native.Mathlib.Omega.{arith}
use native.Mathlib.Nat.{zero-mul, add-mul, one-mul}
use lib.ListN.{length, get_or, length-append}
use borrow.Author.Tests.{lt-ltb}
use Rattle.base.specs.Pick.{pick}
use Rattle.base.specs.Rows.{rows}
use Rattle.base.proofs.Rows.{rows_same, tabulate_length, tabulate_at}
use Rattle.format.specs.Grains.{Grain, absent, zeroed, stored, Map, upper_unless_absent, grain_from, bytes_of, one_if_stored}
use Rattle.format.specs.Grains.{stored_below, entry_for, clip, clip_at, Whole}
use Rattle.format.specs.declared.Entry.{Entry}
use Rattle.format.specs.declared.Entry.TheVariants.{Absent, Zero, Sector}

-- ---- bytes past capacity
module _ (c size g : ℕ) where
  pub clip_length : (s : List ℕ) → length (clip c size g s) ≡ 512 * size
  unfolding clip
  clip_length s = tabulate_length (512 * size) _

  -- it goes by the grain's own bytes
  pub clip_same : (s t : List ℕ) → ((i : ℕ) → i < 512 * size → get_or s i 0 ≡ get_or t i 0) → clip c size g s ≡ clip c size g t
  unfolding clip
  clip_same s t e = rows_same _ _ _ (λ i b. rw (e i b))

  clip_at_lem : (s : List ℕ) (i : ℕ) → i < 512 * size → get_or (clip c size g s) i 0 ≡ clip_at c size g s i
  unfolding clip
  clip_at_lem s i b = tabulate_at (512 * size) (clip_at c size g s) i b

  -- below capacity nothing changes
  pub clip_below : (s : List ℕ) (i : ℕ) → i < 512 * size → 512 * (g * size) + i < 512 * c
      → get_or (clip c size g s) i 0 ≡ get_or s i 0
  unfolding pick
  clip_below s i b l = clip_at_lem s i b ∙ rw (lt-ltb (512 * (g * size) + i) (512 * c) l)

  twice : (b : Bool) (x : ℕ) → pick b (pick b x 0) 0 ≡ pick b x 0
  unfolding pick
  twice true x = refl
  twice false x = refl

  pub clip_clip : (s : List ℕ) → clip c size g (clip c size g s) ≡ clip c size g s
  unfolding clip
  clip_clip s = rows_same _ _ _ (λ i b. rw (clip_at_lem s i b, twice))

  pub whole_length : (a : Grain) → Whole c size g a → length (bytes_of a) ≡ one_if_stored a * (512 * size)
  unfolding bytes_of one_if_stored
  whole_length absent w = sym (zero-mul (512 * size))
  whole_length zeroed w = sym (zero-mul (512 * size))
  whole_length (stored b) w = ap length (sym w) ∙ clip_length b ∙ sym (one-mul (512 * size))

  -- what an image says of a grain is whole
  pub grain_whole : (s : List ℕ) (e : Entry) → Whole c size g (grain_from s c size g e)
  unfolding grain_from
  grain_whole s Absent = tt
  grain_whole s Zero = tt
  grain_whole s (Sector e) = clip_clip _

  pub onto_whole : (a b : Grain) → Whole c size g a → Whole c size g b → Whole c size g (upper_unless_absent a b)
  unfolding upper_unless_absent
  onto_whole a absent p q = p
  onto_whole a zeroed p q = q
  onto_whole a (stored s) p q = q

pub onto_self : (a : Grain) → upper_unless_absent a a ≡ a
unfolding upper_unless_absent
onto_self absent = refl
onto_self zeroed = refl
onto_self (stored s) = refl

-- ---- stored grains
pub stored_same : (m k : Map) (n : ℕ) → ((g : ℕ) → g < n → m g ≡ k g) → stored_below m n ≡ stored_below k n
unfolding stored_below
stored_same m k zero e = refl
stored_same m k (suc n) e = rw (stored_same m k n (λ g b. e g (omega arith)), e n (omega arith))

count_one : (a : Grain) → one_if_stored a ≤ 1
unfolding one_if_stored
count_one absent = omega arith
count_one zeroed = omega arith
count_one (stored b) = omega arith

pub stored_most : (m : Map) (n : ℕ) → stored_below m n ≤ n
unfolding stored_below
stored_most m zero = omega arith
stored_most m (suc n) = omega (arith, stored_most m n, count_one (m n))

pub entry_small : (a : Grain) (v n : ℕ) → 2 ≤ n → v < n → entry_for a v < n
unfolding entry_for
entry_small absent v n l b = omega arith
entry_small zeroed v n l b = omega arith
entry_small (stored s) v n l b = b

-- the bytes of the grains below n
pub stored_length : (size : ℕ) (m : Map) (n : ℕ)
    → ((g : ℕ) → g < n → length (bytes_of (m g)) ≡ one_if_stored (m g) * (512 * size))
    → length (rows n (λ g. bytes_of (m g))) ≡ stored_below m n * (512 * size)
unfolding rows stored_below
stored_length size m zero w = sym (zero-mul (512 * size))
stored_length size m (suc n) w =
    rw (length-append, stored_length size m n (λ g b. w g (omega arith)), w n (omega arith), add-mul)
