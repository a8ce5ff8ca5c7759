-- Areas in ascending order: what a stretch that did not fall tells of them, and lists put together.
use Prim.Native.Nat.{ℕ, ◌+◌, ◌-◌, ◌≤◌, ◌<◌}
use mathlib.Core.Path.{◌≡◌, refl, sym, ap, ◌∙◌}
use mathlib.Core.List.{List, [], ◌∷◌}
use mathlib.Core.Bool.{true, false, true≢false}
use mathlib.Core.Logic.{◌⊎◌, inl, inr, ⊎_elim}
use native.Mathlib.Omega.{arith}
use borrow.Author.Tests.{ltb-false}
use Rattle.base.specs.Rows.{rows}
use Rattle.base.proofs.Steps.{or_no, true_or_false, cond_all}
use Rattle.format.specs.Areas.{Area, holds, holders, runs_past}
use Rattle.format.proofs.Areas.{holds_or, holds_in}
use Rattle.format.proofs.Inside.{one_in}
use Rattle.base.proofs.Rows.{rows_split, row_alone}
use Rattle.ascent.specs.Ascend.{stretched, ascend, settled, span}
use Rattle.ascent.specs.Ascended.{ascend_append}
use Rattle.ascent.specs.declared.Stretch.{Stretch}

-- ---- one area more
module _ (st : Stretch) (a : Area) (over : (stretched st a).falls ≡ false) where
  over_before : st.falls ≡ false
  unfolding stretched
  over_before = (or_no st.falls _ over).0

  begins_after : st.end ≤ a.first
  unfolding stretched
  begins_after = ltb-false _ _ (or_no st.falls _ over).1

-- ---- the areas of a list
-- where it did not fall at the end, it did not before
never_fell : (l : List Area) (st : Stretch) → (ascend st l).falls ≡ false → st.falls ≡ false
unfolding ascend
never_fell [] st over = over
never_fell (a ∷ l) st over = over_before st a (never_fell l (stretched st a) over)

fallen_stays : (l : List Area) (st : Stretch) → st.falls ≡ true → (ascend st l).falls ≡ true
fallen_stays l st fell =
    ⊎_elim (λ t. t) (λ over. absurd (true≢false (sym fell ∙ never_fell l st over))) (true_or_false (ascend st l).falls)

-- the stretch only grows
first_lowest : (l : List Area) (st : Stretch) → (ascend st l).first ≤ st.first
unfolding ascend stretched
first_lowest [] st = omega arith
first_lowest (a ∷ l) st = omega (arith, first_lowest l (stretched st a))

end_highest : (l : List Area) (st : Stretch) → (ascend st l).falls ≡ false → st.end ≤ (ascend st l).end
unfolding ascend stretched
end_highest [] st over = omega arith
end_highest (a ∷ l) st over =
    omega (arith, end_highest l (stretched st a) over, begins_after st a (never_fell l (stretched st a) over))

-- a sector lies in none of the areas, or in one, which begins at or past the end of what was before
held_once : (l : List Area) (st : Stretch) → (ascend st l).falls ≡ false → (x : ℕ)
    → (holders l x ≡ 0)
    ⊎ ((holders l x ≡ 1) × ((ascend st l).first ≤ x) × (st.end ≤ x) × (x < (ascend st l).end))
unfolding ascend stretched holders
held_once [] st over x = inl refl
held_once (a ∷ l) st over x =
    let next = stretched st a in
    let after : st.end ≤ a.first = begins_after st a (never_fell l next over) in
    let low : (ascend next l).first ≤ next.first = first_lowest l next in
    let high : next.end ≤ (ascend next l).end = end_highest l next over in
    ⊎_elim
    (λ y. ⊎_elim (λ n. inr (omega (arith, y.2), omega (arith, y.0), omega (arith, y.0), omega (arith, y.1)))
    (λ o. absurd (omega (arith, o.2, y.1))) (held_once l next over x))
    (λ y. ⊎_elim (λ n. inl (omega arith)) (λ o. inr (omega (arith, o.0), o.1, omega (arith, o.2), o.3))
    (held_once l next over x))
    (holds_or a x)

-- so the areas hold no sector more often than the stretch as one area
pub span_holds : (l : List Area) (st : Stretch) → (ascend st l).falls ≡ false → (x : ℕ) → holders l x
    ≤ holds (span (ascend st l)) x
span_holds l st over x =
    ⊎_elim (λ n. omega arith)
    (λ o. omega (arith, o.0, holds_in (span (ascend st l)) x o.1 (omega (arith, o.1, o.3))))
    (held_once l st over x)

-- and the stretch lies below f where they do
pub ends_below : (f : ℕ) (l : List Area) (st : Stretch) → runs_past f l ≡ false → st.first ≤ f → st.end ≤ f
    → ((ascend st l).first ≤ f) × ((ascend st l).end ≤ f)
unfolding ascend stretched
ends_below f [] st inside low high = (low, high)
ends_below f (a ∷ l) st inside low high =
    let n = one_in f a l inside in ends_below f l (stretched st a) n.1 (omega arith) n.0

-- one that fell never settles otherwise
pub settled_over : (st r : Stretch) → r ≡ settled st → r.falls ≡ false → (r ≡ st) × (st.falls ≡ false)
unfolding settled
settled_over st r e over =
    cond_all (λ (q : Stretch). r ≡ q → (r ≡ st) × (st.falls ≡ false)) st.falls _ st
    (λ t q. absurd (true≢false (sym (ap (λ (o : Stretch). o.falls) q) ∙ over))) (λ f q. (q, f)) e

-- ---- lists put together
pub ascend_one : (st : Stretch) (a : Area) → ascend st (a ∷ []) ≡ stretched st a
unfolding ascend
ascend_one st a = refl

-- ---- a loop that goes row after row
module _ (st : Stretch) (p : ℕ → List Area) where
  pub rows_start : st ≡ ascend st (rows 0 p)
  unfolding rows ascend
  rows_start = refl

  -- the rows from `base` on, `last` of them, which are the areas l
  pub rows_more : (reached next : Stretch) (base last : ℕ) (l : List Area) → rows last (λ k. p (base + k)) ≡ l
      → reached ≡ ascend st (rows base p) → next ≡ ascend reached l → next ≡ ascend st (rows (base + last) p)
  rows_more reached next base last l same e g =
      rw (rows_split base last p, same, ascend_append, ← e) g

  -- the next row
  pub row_more : (reached next : Stretch) (k : ℕ) → reached ≡ ascend st (rows k p) → next ≡ ascend reached (p k)
      → next ≡ ascend st (rows (k + 1) p)
  row_more reached next k e g = rows_more reached next k 1 (p k) (row_alone p k) e g

  -- where it fell, it stays so
  pub rows_fell : (reached : Stretch) (k n : ℕ) → reached ≡ ascend st (rows k p) → reached.falls ≡ true → k ≤ n
      → (ascend st (rows n p)).falls ≡ true
  rows_fell reached k n e fell h =
      let q : n ≡ k + (n - k) = omega arith in
      rw (q, rows_split k (n - k) p, ascend_append, ← e) (fallen_stays _ reached fell)

  pub rows_all : (reached : Stretch) (k n : ℕ) → reached ≡ ascend st (rows k p) → k ≤ n → n ≤ k
      → reached ≡ ascend st (rows n p)
  rows_all reached k n e l h = let q : n ≡ k = omega arith in rw q e
