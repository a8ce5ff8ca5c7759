-- What reading entries and markers asks, each premise as the code gives it.
use Prim.Native.Nat.{ℕ, ◌+◌, ◌*◌, ◌≤◌}
use mathlib.Core.Path.{◌≡◌, sym, ◌∙◌}
use mathlib.Core.List.{List}
use mathlib.Core.Bool.{Bool, true, false}
use native.Mathlib.Omega.{arith}
use native.Mathlib.Nat.{mul-le-mul}
use lib.Dec.{ltb}
use lib.ListN.{length}
use mir.Syntax.{w64}
use mir.Val.{Fits}
use borrow.Author.Tests.{ltb-false}
use Rattle.base.specs.Pick.{pick}
use Rattle.base.specs.Rounding.{ceil}
use Rattle.format.specs.Geometry.{file_sectors}
use Rattle.format.specs.Entries.{marker_size, grain_sectors}
use Rattle.format.proofs.Entries.{some_sectors, grain_past_lem}

-- ---- markers
pub first_fits : (g size : ℕ) → g ≤ 0x80000000 → size ≤ 2048 → Fits w64 (g * size)
first_fits g size a b = let h : g * size ≤ 0x80000000 * 2048 = mul-le-mul a b in omega arith

module _ (s : List ℕ) (packed : Bool) (e m : ℕ) (p : packed ≡ true) (q : m ≡ marker_size s e) where
  pub packed_sectors : (size z : ℕ) → z ≡ ceil (12 + m) 512 → z ≡ grain_sectors s packed size e
  unfolding grain_sectors pick
  packed_sectors size z t = rw (p, ← q) t

-- ---- a grain past F
module _ (s : List ℕ) (packed : Bool) (size e : ℕ) (one : 1 ≤ size) where
  pub past_out : (f : ℕ) → f ≡ file_sectors s → f ≤ e → true ≡ ltb (file_sectors s) (e + grain_sectors s packed size e)
  past_out f q l = sym (grain_past_lem packed size e one s (file_sectors s) (omega arith))

  -- where it does not run past F, its first sector can be read
  pub grain_read : {r : Bool} → r ≡ ltb (file_sectors s) (e + grain_sectors s packed size e) → r ≡ false
      → 512 * e + 12 ≤ length s
  grain_read q n =
      omega (
        arith,
        some_sectors s packed size e one,
        ltb-false (file_sectors s) (e + grain_sectors s packed size e)
            (sym q ∙ n),
      )
