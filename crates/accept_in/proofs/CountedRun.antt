-- What a run of marking from sector 0 on tells, where all areas lie in the words: whether two meet, and how many sectors the
-- areas before that have.
use Prim.Native.Nat.{ℕ, ◌+◌, ◌*◌, ◌≤◌, ◌<◌}
use mathlib.Core.Path.{◌≡◌, sym, ap, ◌∙◌}
use mathlib.Core.List.{List, [], ◌∷◌}
use mathlib.Core.Logic.{⊎_elim}
use mathlib.Core.Bool.{Bool, true, false}
use native.Mathlib.Omega.{arith}
use native.Mathlib.Nat.{zero-add}
use lib.ListN.{length}
use Rattle.base.specs.Pick.{pick}
use Rattle.base.specs.Rounding.{ceil}
use Rattle.base.specs.Bytes.{zeros}
use Rattle.base.specs.SumsBelow.{sum_below}
use Rattle.base.proofs.Steps.{true_or_false, lt_or_ge}
use Rattle.base.proofs.Over.{zeros_length}
use Rattle.base.proofs.SumsBelow.{sum_same}
use Rattle.format.specs.Areas.{Area, holders, shares_any, meet, runs_past}
use Rattle.format.specs.CheckIn.{sectors_of, before_meeting, marked_sectors}
use Rattle.format.proofs.Areas.{holds_in, holds_or, any_yes, any_no, two_meet, apart_meet, past_none}
use Rattle.format.proofs.Inside.{one_in, in_one, none_in}
use Rattle.format.proofs.MarkedSectors.{sectors_sum, before_in}
use Rattle.marks.specs.Marks.{marked, Free, Taken}
use Rattle.window.specs.Run.{low, high, Run, done, next, met}
use Rattle.window.specs.TakenRuns.{run_length}
use Rattle.overlap.proofs.Told.{Stands, stands_put, stands_none, run_free, run_met}
use Rattle.counts.specs.MarkedCount.{marked_count, Emptied}
use Rattle.accept_in.specs.Lent.{Told}

past_wider : (f g : ℕ) (l : List Area) → f ≤ g → runs_past f l ≡ false → runs_past g l ≡ false
past_wider f g [] h e = none_in g
past_wider f g (a ∷ l) h e = let i = one_in f a l e in in_one g a l (omega (arith, i.0)) (past_wider f g l h i.1)

-- ---- one area, where `seen` were marked before: it meets one of them exactly where a sector of it is marked
module _ (ws : List ℕ) (seen : List Area) (st : Stands ws 0 seen) (a : Area)
    (i : a.first + a.sector_count ≤ 64 * length ws) where
  free_none : Free ws (low 0 ws a) (high 0 ws a) → shares_any a seen ≡ false
  free_none f =
      ⊎_elim
      (λ y. let r = any_yes a seen y in
      ⊎_elim
      (λ inside. absurd (omega (
        arith,
        r.2,
        f r.0 (omega (arith, inside)) (omega (arith, inside)),
        rw zero-add at (st r.0 (omega (arith, inside))),
      )))
      (λ out. absurd (omega (arith, out, r.1)))
      (holds_or a r.0))
      (λ n. n)
      (true_or_false (shares_any a seen))

  taken_some : Taken ws (low 0 ws a) (high 0 ws a) → shares_any a seen ≡ true
  taken_some t =
      let l = t.1 in
      let u = t.2 in
      let m = t.3 in
      ⊎_elim
      (λ y. y)
      (λ n. absurd (omega (
        arith,
        any_no a seen t.0 n (holds_in a t.0 (omega arith) (omega arith)),
        rw zero-add at (st t.0 (omega arith)),
      )))
      (true_or_false (shares_any a seen))

-- ---- after the run each sector is marked as often as the areas before the first that meets one hold it
run_counted : (seen : List Area) {ws ys : List ℕ} {l : List Area} {r : Bool} → Run 0 ws l ys r → Stands ws 0 seen
    → runs_past (64 * length ws) l ≡ false → (x : ℕ) → x < 64 * length ws
    → marked ys x ≡ holders seen x + holders (before_meeting seen l) x
unfolding before_meeting holders pick
run_counted seen done st e x h = omega (arith, rw zero-add at (st x h))
run_counted seen (next {ws} {xs} {ys} {a} {l} f p g) st e x h =
    let i = one_in (64 * length ws) a l e in
    rw (free_none ws seen st a i.0 f)
    (omega (
      arith,
      run_counted (a ∷ seen) g (stands_put 0 ws xs seen a st f p) (rw p.size i.1) x (omega (arith, p.size)),
    ))
run_counted seen (met {ws} {a} {l} t) st e x h =
    let i = one_in (64 * length ws) a l e in
    rw (taken_some ws seen st a i.0 t) (omega (arith, rw zero-add at (st x h)))

-- ---- from words of 0 on
module _ (n : ℕ) (l : List Area) (f : ℕ) (room : f ≤ 64 * n) (inside : runs_past f l ≡ false) {ys : List ℕ} {r : Bool}
    (g : Run 0 (zeros n) l ys r) where
  wide : runs_past (64 * length (zeros n)) l ≡ false
  wide = past_wider f _ l (omega (arith, zeros_length n)) inside

  none : Stands (zeros n) 0 []
  unfolding zeros
  none = stands_none 0 n

  pub run_meets : r ≡ meet l
  unfolding holders
  run_meets =
      ⊎_elim
      (λ t. let m = run_met 0 [] g t none in t ∙ sym (two_meet l m.0 (omega (arith, m.1))))
      (λ t. t ∙ sym (apart_meet l (λ x.
      ⊎_elim (λ b. omega (arith, simp zero-add at (run_free 0 [] g t none x (omega (arith, zeros_length n)))))
      (λ a. omega (arith, past_none f l inside x a)) (lt_or_ge x f))))
      (true_or_false r)

  pub run_counts : marked_count ys ≡ marked_sectors l
  unfolding marked_count holders
  run_counts =
      rw (run_length g)
      (sum_same (64 * length (zeros n)) (marked ys) (holders (before_meeting [] l))
      (λ x b. omega (arith, run_counted [] g none wide x b))
      ∙ sectors_sum (64 * length (zeros n)) (before_meeting [] l) (before_in _ [] l wide))

-- ---- words that were cleared, marked, counted and cleared again
pub marked_told : (f : ℕ) (l : List Area) (ws₀ ws₁ ws₂ ws₃ : List ℕ) (r : Bool) (count : ℕ) → length ws₀ ≡ ceil f 64
    → runs_past f l ≡ false → ws₁ ≡ zeros (length ws₀) → Run 0 ws₁ l ws₂ r → Emptied ws₂ ws₃ count → Told l ws₀ ws₃ r count
marked_told f l ws₀ ws₁ ws₂ ws₃ r count size inside e g k =
    let room : f ≤ 64 * length ws₀ = omega arith in
    let run : Run 0 (zeros (length ws₀)) l ws₂ r = rw e at g in
    record {
      meets = run_meets (length ws₀) l f room inside run;
      counted = k.counted ∙ run_counts (length ws₀) l f room inside run;
      cleared = k.cleared ∙ ap zeros (run_length run ∙ zeros_length (length ws₀));
    }
