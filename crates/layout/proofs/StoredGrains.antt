-- The stored grains of a map: how many there are, and how long their bytes.
use Prim.Native.Nat.{ℕ, ◌+◌, ◌*◌, ◌≤◌, ◌<◌}
use mathlib.Core.Path.{◌≡◌, refl}
use native.Mathlib.Omega.{arith}
use native.Mathlib.Nat.{le_refl}
use native.Mathlib.Numerals.{add-one}
use native.Mathlib.Decide.{le_ind}
use lib.ListN.{length}
use Rattle.base.specs.Rows.{rows}
use Rattle.format.specs.Grains.{Map, bytes_of, one_if_stored, stored_below}
use Rattle.format.proofs.Grains.{stored_length}

-- each stored grain has the bytes that it takes
pub record Full (m : Map) (z : ℕ) : Type 0 where
  pub bytes : (g : ℕ) → length (bytes_of (m g)) ≡ one_if_stored (m g) * (512 * z)

module _ (m : Map) where
  pub stored_none : 0 ≡ stored_below m 0
  unfolding stored_below
  stored_none = refl

  pub stored_more : (g : ℕ) → stored_below m (g + 1) ≡ stored_below m g + one_if_stored (m g)
  unfolding stored_below
  stored_more g = rw add-one

  pub stored_within : (g all : ℕ) → g < all → stored_below m g + one_if_stored (m g) ≤ stored_below m all
  unfolding stored_below
  stored_within g all h =
      le_ind (λ i. stored_below m g + one_if_stored (m g) ≤ stored_below m i) (le_refl _)
      (λ i (l : g < i) (e : stored_below m g + one_if_stored (m g) ≤ stored_below m i). omega arith) all h

  pub bytes_long : (z : ℕ) → Full m z → (k : ℕ) → length (rows k (λ g. bytes_of (m g))) ≡ stored_below m k * (512 * z)
  bytes_long z f k = stored_length z m k (λ g b. f.bytes g)
