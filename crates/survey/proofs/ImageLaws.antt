-- Image k of those that stand end to end, from byte `start` on.
use Prim.Native.Nat.{ℕ, ◌+◌, ◌-◌, ◌^◌, ◌≤◌, ◌<◌}
use mathlib.Core.Path.{◌≡◌, ap, ◌∙◌}
use mathlib.Core.List.{List}
use native.Mathlib.Omega.{arith}
use lib.ListN.{length, get_or, take, drop}
use Rattle.format.specs.Chain.{layer_at}
use Rattle.format.specs.Survey.{row_of, row_at}
use Rattle.format.specs.declared.Row.{Row}
use Rattle.lengths.specs.Laid.{Laid, Ends}
use Rattle.lengths.proofs.Sums.{ends_up, layer_is}

module _ (s l : List ℕ) (k start : ℕ) (z : Laid 1024 s l) (e : Ends s l k start) (h : k < length l) where
  pub image_ends : Ends s l (k + 1) (start + get_or l k 0)
  image_ends = ends_up s l k start z e h

  pub image_inside : start + get_or l k 0 ≤ length s
  image_inside = image_ends.inside

  pub image_few : k < 1024
  image_few = omega (arith, z.few)

  pub image_fits : length s < 2 ^ 64 → start + get_or l k 0 < 2 ^ 64
  image_fits b = omega (arith, image_inside)

  image_is : take (start + get_or l k 0 - start) (drop start s) ≡ layer_at s l k
  image_is =
      let q : start + get_or l k 0 - get_or l k 0 ≡ start = omega arith in
      rw q at (layer_is s l k (start + get_or l k 0) image_ends)

  pub image_row : (r : Row) → r ≡ row_of (take (start + get_or l k 0 - start) (drop start s)) → r ≡ row_at s l k
  image_row r p = p ∙ ap row_of image_is
