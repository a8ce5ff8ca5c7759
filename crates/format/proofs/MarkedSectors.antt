-- The number of sectors marked: never more than the file has, and of areas that are apart the sum of all their sizes.
use Prim.Native.Nat.{ℕ, ◌+◌, ◌-◌, ◌≤◌}
use mathlib.Core.Path.{◌≡◌, refl}
use mathlib.Core.List.{List, [], ◌∷◌}
use mathlib.Core.Logic.{⊎_elim}
use mathlib.Core.Bool.{false}
use native.Mathlib.Omega.{arith}
use Rattle.base.specs.Pick.{pick}
use Rattle.base.specs.SumsBelow.{sum_below}
use Rattle.base.proofs.Steps.{true_or_false, cond_all}
use Rattle.base.proofs.SumsBelow.{sum_split, sum_add, sum_none, sum_ones, sum_most}
use Rattle.format.specs.Areas.{Area, holds, holders, shares_any, meet, runs_past}
use Rattle.format.specs.CheckIn.{sectors_of, before_meeting, marked_sectors}
use Rattle.format.proofs.Areas.{holds_in, holds_under, holds_over, holds_or, any_yes, any_no, meet_apart}
use Rattle.format.proofs.Inside.{one_in, in_one, none_in}

-- ---- the sectors of areas that lie below f, counted one by one
module _ (f : ℕ) where
  area_sum : (a : Area) → a.first + a.sector_count ≤ f → sum_below (holds a) f ≡ a.sector_count
  area_sum a h =
      let rest = f - (a.first + a.sector_count) in
      let e : f ≡ a.first + (a.sector_count + rest) = omega arith in
      rw (e, sum_split a.first (a.sector_count + rest) (holds a))
      (rw (sum_split a.sector_count rest (λ k. holds a (a.first + k)))
      (omega (
        arith,
        sum_none a.first (holds a) (λ x b. holds_under a x b),
        sum_ones a.sector_count (λ k. holds a (a.first + k))
            (λ x b. holds_in a (a.first + x) (omega arith) (omega arith)),
        sum_none rest (λ k. holds a (a.first + (a.sector_count + k))) (λ x b. holds_over a _ (omega arith)),
      )))

  pub sectors_sum : (l : List Area) → runs_past f l ≡ false → sum_below (holders l) f ≡ sectors_of l
  unfolding holders sectors_of
  sectors_sum [] e = sum_none f (holders []) (λ x b. refl)
  sectors_sum (a ∷ l) e =
      let i = one_in f a l e in
      omega (arith, sum_add f (holds a) (holders l), area_sum a i.0, sectors_sum l i.1)

-- ---- the areas before the first that meets an earlier one
-- one that meets none of the earlier ones leaves each sector in at most one
pub apart_more : (earlier : List Area) (a : Area) (x : ℕ) → shares_any a earlier ≡ false → holders earlier x ≤ 1
    → holds a x + holders earlier x ≤ 1
apart_more earlier a x n h =
    ⊎_elim (λ y. omega (arith, any_no a earlier x n y.2, y.2)) (λ y. omega (arith, y)) (holds_or a x)

before_apart : (earlier l : List Area) (x : ℕ) → holders earlier x ≤ 1
    → holders earlier x + holders (before_meeting earlier l) x ≤ 1
unfolding before_meeting holders
before_apart earlier [] x h = omega arith
before_apart earlier (a ∷ l) x h =
    cond_all (λ m. holders earlier x + holders m x ≤ 1) (shares_any a earlier) _ _ (λ t. omega arith)
    (λ n. omega (arith, before_apart (a ∷ earlier) l x (apart_more earlier a x n h)))

-- they are areas of the list
pub before_in : (f : ℕ) (earlier l : List Area) → runs_past f l ≡ false → runs_past f (before_meeting earlier l) ≡ false
unfolding before_meeting
before_in f earlier [] e = none_in f
before_in f earlier (a ∷ l) e =
    let i = one_in f a l e in
    cond_all (λ m. runs_past f m ≡ false) (shares_any a earlier) _ _ (λ t. none_in f)
    (λ n. in_one f a _ i.0 (before_in f (a ∷ earlier) l i.1))

-- they are all, where no sector lies in two
before_all : (earlier l : List Area) → ((x : ℕ) → holders earlier x + holders l x ≤ 1) → before_meeting earlier l ≡ l
unfolding before_meeting holders pick
before_all earlier [] h = refl
before_all earlier (a ∷ l) h =
    ⊎_elim
    (λ y. let r = any_yes a earlier y in absurd (omega (arith, r.1, r.2, h r.0)))
    (λ n. rw (n, before_all (a ∷ earlier) l (λ x. omega (arith, h x))))
    (true_or_false (shares_any a earlier))

-- ---- the number
pub marked_most : (f : ℕ) (l : List Area) → runs_past f l ≡ false → marked_sectors l ≤ f
unfolding holders
marked_most f l e =
    let told = sectors_sum f (before_meeting [] l) (before_in f [] l e) in
    omega (arith, sum_most f (holders (before_meeting [] l)) (λ x b. omega (arith, before_apart [] l x (omega arith))))

pub marked_all : (l : List Area) → meet l ≡ false → marked_sectors l ≡ sectors_of l
unfolding holders
marked_all l e = rw (before_all [] l (λ x. omega (arith, meet_apart l e x)))
