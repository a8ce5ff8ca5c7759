-- Runs of marking, put together.
use Rattle.std.specs.Prelude.{◌≡◌, refl, ℕ, List, ◌++◌, Bool, true, false, length}
use mathlib.Core.Path.{◌∙◌, subst}
use mathlib.Core.Bool.{true≢false}
use Rattle.std.proofs.lemmas.Bool.{false≢true}
use Rattle.format.specs.Areas.{Area}
use Rattle.window.specs.Run.{Run, done, next, met}

module _ {lo : ℕ} where
  pub run_length : {ws ys : List ℕ} {l : List Area} {r : Bool} → Run lo ws l ys r → length ys ≡ length ws
  run_length done = refl
  run_length (next f p g) = run_length g ∙ p.size
  run_length (met t) = refl

  pub run_more : {ws xs ys : List ℕ} {l m : List Area} {q r : Bool} → Run lo ws l xs q → q ≡ false → Run lo xs m ys r
      → Run lo ws (l ++ m) ys r
  run_more done e h = h
  run_more (next f p g) e h = next f p (run_more g e h)
  run_more (met t) e h = absurd (true≢false e)

  -- one that met a marked sector is one of any longer list
  pub run_stop : {ws xs : List ℕ} {l : List Area} {q : Bool} (m : List Area) → Run lo ws l xs q → q ≡ true
      → Run lo ws (l ++ m) xs true
  run_stop m done e = absurd (false≢true e)
  run_stop m (next f p g) e = next f p (run_stop m g e)
  run_stop m (met t) e = met t

pub at_window : {lo at : ℕ} {ws ys : List ℕ} {l : List Area} {r : Bool} → at ≡ lo → Run at ws l ys r → Run lo ws l ys r
at_window {lo} {at} {ws} {ys} {l} {r} e g = subst (λ (o : ℕ). Run o ws l ys r) e g

pub run_now : {lo : ℕ} {ws xs ys : List ℕ} {l : List Area} {r : Bool} → Run lo ws l xs r → ys ≡ xs → Run lo ws l ys r
run_now {lo} {ws} {xs} {ys} {l} {r} g e = rw e g
