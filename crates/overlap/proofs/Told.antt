-- What a run of marking tells of the areas.
use Prim.Native.Nat.{ℕ, ◌+◌, ◌*◌, ◌-◌, ◌≤◌, ◌<◌}
use mathlib.Core.Path.{◌≡◌}
use mathlib.Core.List.{List, [], ◌∷◌}
use mathlib.Core.Logic.{⊎_elim}
use mathlib.Core.Bool.{Bool, true, false, true≢false, false≢true}
use native.Mathlib.Omega.{arith}
use lib.ListN.{length, replicate, length-replicate}
use Rattle.base.proofs.Steps.{lt_or_ge}
use Rattle.format.specs.Areas.{Area, holders}
use Rattle.format.proofs.Areas.{holds_in, holds_under, holds_over}
use Rattle.marks.specs.Marks.{marked, Free, Put}
use Rattle.marks.proofs.BitWords.{none_marked}
use Rattle.window.specs.Run.{low, high, Run, done, next, met, Window}

-- in the window each sector is marked as often as areas hold it: so no two of them share a sector there
abbrev pub Stands : List ℕ → ℕ → List Area → Type 0
Stands ws lo l = (i : ℕ) → i < 64 * length ws → marked ws i ≡ holders l (lo + i)

module _ (lo : ℕ) where
  -- ---- where `seen` were marked before
  pub stands_put : (ws xs : List ℕ) (seen : List Area) (a : Area) → Stands ws lo seen → Free ws (low lo ws a) (high lo ws a)
      → Put ws xs (low lo ws a) (high lo ws a) → Stands xs lo (a ∷ seen)
  unfolding holders
  stands_put ws xs seen a st f p i h =
      let b : i < 64 * length ws = omega (arith, p.size) in
      ⊎_elim
      (λ u. omega (arith, p.under i (omega arith), st i b, holds_under a (lo + i) u))
      (λ l. ⊎_elim
      (λ u. omega (
        arith,
        p.inside i (omega arith) (omega arith),
        f i (omega arith) (omega arith),
        st i b,
        holds_in a
            (lo + i) l u,
      ))
      (λ o. omega (arith, p.over i (omega arith), st i b, holds_over a (lo + i) o))
      (lt_or_ge (lo + i) (a.first + a.sector_count)))
      (lt_or_ge (lo + i) a.first)

  pub run_free : (seen : List Area) {ws ys : List ℕ} {l : List Area} {r : Bool} → Run lo ws l ys r → r ≡ false
      → Stands ws lo seen → (i : ℕ) → i < 64 * length ws → holders seen (lo + i) + holders l (lo + i) ≤ 1
  unfolding holders
  run_free seen done e st i h = omega (arith, st i h)
  run_free seen (next {ws} {xs} {ys} {a} f p g) e st i h =
      omega (arith, run_free (a ∷ seen) g e (stands_put ws xs seen a st f p) i (omega (arith, p.size)))
  run_free seen (met t) e st i h = absurd (true≢false e)

  pub run_met : (seen : List Area) {ws ys : List ℕ} {l : List Area} {r : Bool} → Run lo ws l ys r → r ≡ true → Stands ws lo seen
      → (x : ℕ) × (2 ≤ holders seen x + holders l x)
  unfolding holders
  run_met seen done e st = absurd (false≢true e)
  run_met seen (next {ws} {xs} {ys} {a} f p g) e st =
      let r = run_met (a ∷ seen) g e (stands_put ws xs seen a st f p) in (r.0, omega (arith, r.1))
  run_met seen (met {ws} {a} t) e st =
      let l = t.1 in
      let u = t.2 in
      (lo + t.0, omega (arith, t.3, st t.0 (omega arith), holds_in a (lo + t.0) (omega arith) (omega arith)))

  -- ---- from words of 0 on, which stand for no areas: one window whole, its n words never written out
  pub stands_none : (n : ℕ) → Stands (replicate n 0) lo []
  unfolding holders
  stands_none n i h = none_marked n i

  pub window_told : (n : ℕ) {ys : List ℕ} {l : List Area} {r : Bool} → n ≡ 131072 → Run lo (replicate n 0) l ys r
      → Window l lo r
  unfolding holders
  window_told n size g = record {
    met = λ e. let m = run_met [] g e (stands_none n) in (m.0, omega (arith, m.1));
    free = λ e x l u.
        let at : lo + (x - lo) ≡ x = omega arith in
        let told = run_free [] g e (stands_none n) (x - lo) (omega (arith, length-replicate {A = ℕ} n 0)) in
        omega (arith, rw at at told);
  }
