-- Window after window, up to the file's end.
use Prim.Native.Nat.{ℕ, ◌*◌, ◌/◌, ◌≤◌, ◌<◌}
use mathlib.Core.Path.{◌≡◌, refl, sym}
use mathlib.Core.List.{List}
use mathlib.Core.Logic.{⊎_elim}
use mathlib.Core.Bool.{Bool, true, false}
use native.Mathlib.Omega.{arith}
use lib.ListN.{length}
use Rattle.std.specs.Bool.{MatchBool}
use Rattle.std.specs.List.{range_with_len, AllWithin, HoldsAt}
use Rattle.std.proofs.lemmas.List.FromFn.{length-range_with_len, get_or-range_with_len}
use Rattle.base.specs.Rounding.{ceil}
use Rattle.base.proofs.Rounding.{ceil_covers}
use Rattle.base.proofs.Steps.{lt_or_ge}
use Rattle.format.specs.Areas.{Area, holders, runs_past, meet}
use Rattle.format.proofs.Areas.{two_meet, apart_meet, past_none}
use Rattle.window.specs.Run.{Window}

-- of the first n windows, one told that a sector lies in two areas, or all that none does
module _ (l : List Area) (f n : ℕ) (en : n ≡ ceil f 8388608) (inside : runs_past f l ≡ false) where
  pub windows_told : (r : Bool) → MatchBool r
      ((k : ℕ) × (k < length (range_with_len 0 n)) × HoldsAt (λ w. Window l (8388608 * w) true) (range_with_len 0 n) k)
      (AllWithin (λ w. Window l (8388608 * w) false) (range_with_len 0 n) 0 (length (range_with_len 0 n)))
      → r ≡ meet l
  windows_told true here = let w = here.2 0 in let m = w.met refl in sym (two_meet l m.0 m.1)
  windows_told false none =
      sym (apart_meet l (λ x. ⊎_elim (below x) (λ h. omega (arith, past_none f l inside x h)) (lt_or_ge x f)))
    where
      below : (x : ℕ) → x < f → holders l x ≤ 1
      below x b =
          let w = x / 8388608 in
          let h : w < n = omega (arith, ceil_covers f 8388608 (omega arith)) in
          let told = none w 0 (omega arith) (rw length-range_with_len h) in
          (rw (get_or-range_with_len 0 n w 0 h) at told).free refl x (omega arith) (omega arith)
