-- Runs of marking, put together as calls follow each other.
use Prim.Native.Nat.{ℕ, ◌+◌, ◌*◌, ◌-◌, ◌^◌, ◌≤◌, ◌<◌}
use mathlib.Core.Path.{◌≡◌, refl}
use mathlib.Core.List.{List, [], ◌∷◌}
use mathlib.Core.Bool.{Bool, true, false, not}
use native.Mathlib.Omega.{arith}
use lib.ListN.{length}
use Rattle.base.specs.Pick.{pick}
use Rattle.format.specs.Areas.{Area, area, if_there}
use Rattle.marks.specs.Marks.{Free, Marking}
use Rattle.marks.proofs.BitRuns.{put_none}
use Rattle.window.specs.Run.{clip, low, high, Run, done, next, met}
use Rattle.window.specs.TakenRuns.{run_more, run_stop}

-- ---- one area, as the code clips it
module _ (lo first count from end : ℕ) (ws : List ℕ) (f : from ≡ clip lo ws first) (e : end ≡ clip lo ws (first + count)) where
  -- no part of it lies in the window
  pub run_outside : end ≤ from → Run lo ws (area first count ∷ []) ws false
  run_outside h =
      let free : Free ws (low lo ws (area first count)) (high lo ws (area first count)) = λ i l u. absurd (omega arith) in
      next free (put_none ws _ _ (omega arith)) done

  run_one : (xs : List ℕ) (m : Bool) → Marking ws xs (low lo ws (area first count)) (high lo ws (area first count)) m
      → Run lo ws (area first count ∷ []) xs (not m)
  run_one xs true k = next (k.was_free refl) (k.now_put refl) done
  run_one xs false k = rw (k.unchanged refl) (met (k.was_taken refl))

  pub run_clip : (xs : List ℕ) (m : Bool) → Marking ws xs from (from + (end - from)) m
      → Run lo ws (area first count ∷ []) xs (not m)
  run_clip xs m k =
      let span : from + (end - from) ≡ clip lo ws (first + count) = omega arith in
      run_one xs m (rw (span, f) at k)

-- ---- an area before the window, after it, or in it whole
module _ (lo first count : ℕ) (ws : List ℕ) where
  pub run_before : first + count ≤ lo → Run lo ws (area first count ∷ []) ws false
  run_before h = run_outside lo first count _ _ ws refl refl (omega arith)

  pub run_after : 64 * length ws ≤ first - lo → Run lo ws (area first count ∷ []) ws false
  run_after h = run_outside lo first count _ _ ws refl refl (omega arith)

  pub run_whole : (xs : List ℕ) (m : Bool) → lo < first → first - lo < 64 * length ws
      → count ≤ 64 * length ws - (first - lo) → Marking ws xs (first - lo) (first - lo + count) m
      → Run lo ws (area first count ∷ []) xs (not m)
  run_whole xs m l b h k =
      let from : first - lo ≡ clip lo ws first = omega arith in
      let end : first - lo + count ≡ clip lo ws (first + count) = omega arith in
      run_one lo first count (first - lo) (first - lo + count) ws from end xs m (rw (end, from) at k)

-- ---- an area that an image may have
pub there_ends : (there : Bool) (first count : ℕ) → (there ≡ true → first + count < 2 ^ 64) → there ≡ true → first + count
    < 2 ^ 64
there_ends there first count f t = f t

module _ (lo : ℕ) (there : Bool) (a : Area) (ws : List ℕ) where
  pub run_there : (xs : List ℕ) (r : Bool) → there ≡ true → Run lo ws (a ∷ []) xs r → Run lo ws (if_there there a) xs r
  unfolding if_there pick
  run_there xs r t g = rw t g

  pub run_absent : there ≡ false → Run lo ws (if_there there a) ws false
  unfolding if_there pick
  run_absent t = rw t done

-- ---- calls after each other, left where one met: `search calls` puts their runs together
module _ (lo : ℕ) (ws xs : List ℕ) (q : Bool) (a : Area) (m : List Area) where
  pub one_more : (ys : List ℕ) (r : Bool) → Run lo ws (a ∷ []) xs q → q ≡ false → Run lo xs m ys r → Run lo ws (a ∷ m) ys r
  one_more ys r g e h = run_more g e h

  pub one_stop : Run lo ws (a ∷ []) xs q → q ≡ true → Run lo ws (a ∷ m) xs true
  one_stop g e = run_stop m g e

pub ruleset calls = (run_stop, run_more, one_stop, one_more)
