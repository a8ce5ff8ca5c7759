-- What areas hold, and that `meet` says whether a sector lies in two of a list.
use Prim.Native.Nat.{ℕ, ◌+◌, ◌≤◌, ◌<◌, min, max}
use mathlib.Core.Path.{◌≡◌, refl}
use mathlib.Core.List.{List, [], ◌∷◌, ◌++◌}
use mathlib.Core.Logic.{◌⊎◌, inl, inr, ⊎_elim}
use mathlib.Core.Bool.{Bool, true, false, ◌||◌, false≢true}
use native.Mathlib.Omega.{arith}
use native.Mathlib.Nat.{add_assoc}
use borrow.Author.Tests.{ltb-true, ltb-false, lt-ltb, le-ltb, le-leb, lt-leb}
use Rattle.base.specs.Pick.{pick}
use Rattle.base.proofs.Steps.{or_no, or_yes, true_or_false, lt_or_ge}
use Rattle.format.specs.Areas.{Area, holds, holders, Apart, shares, shares_any, meet, ends_past, runs_past}

-- ---- one area
module _ (a : Area) (x : ℕ) where
  pub holds_in : a.first ≤ x → x < a.first + a.sector_count → holds a x ≡ 1
  unfolding holds pick
  holds_in l u = rw (le-leb a.first x l, lt-ltb x (a.first + a.sector_count) u)

  pub holds_under : x < a.first → holds a x ≡ 0
  unfolding holds pick
  holds_under u = rw (lt-leb a.first x u)

  pub holds_over : a.first + a.sector_count ≤ x → holds a x ≡ 0
  unfolding holds pick
  holds_over l =
      ⊎_elim (λ u. holds_under u) (λ f. rw (le-leb a.first x f, le-ltb x (a.first + a.sector_count) l))
      (lt_or_ge x a.first)

  -- a sector lies in the area, or not
  pub holds_or : ((a.first ≤ x) × (x < a.first + a.sector_count) × (holds a x ≡ 1)) ⊎ (holds a x ≡ 0)
  holds_or =
      ⊎_elim (λ u. inr (holds_under u))
      (λ l. ⊎_elim (λ u. inl (l, u, holds_in l u)) (λ o. inr (holds_over o)) (lt_or_ge x (a.first + a.sector_count)))
      (lt_or_ge x a.first)

-- ---- two areas, and one and many
shares_yes : (a b : Area) → shares a b ≡ true → (x : ℕ) × (holds a x ≡ 1) × (holds b x ≡ 1)
unfolding shares
shares_yes a b e =
    let h : max a.first b.first < min (a.first + a.sector_count) (b.first + b.sector_count) = omega (arith, ltb-true) in
    (max a.first b.first, holds_in a _ (omega arith) (omega arith), holds_in b _ (omega arith) (omega arith))

shares_no : (a b : Area) (x : ℕ) → shares a b ≡ false → holds a x + holds b x ≤ 1
unfolding shares
shares_no a b x e =
    let h : min (a.first + a.sector_count) (b.first + b.sector_count) ≤ max a.first b.first =
    omega (arith, ltb-false) in
    ⊎_elim
    (λ y. ⊎_elim (λ z. absurd (omega arith)) (λ z. omega arith) (holds_or b x))
    (λ y. ⊎_elim (λ z. omega arith) (λ z. omega arith) (holds_or b x))
    (holds_or a x)

pub any_yes : (a : Area) (l : List Area) → shares_any a l ≡ true → (x : ℕ) × (holds a x ≡ 1) × (1 ≤ holders l x)
unfolding shares_any holders
any_yes a [] e = absurd (false≢true e)
any_yes a (b ∷ l) e =
    ⊎_elim
    (λ y. let r = shares_yes a b y in (r.0, r.1, omega (arith, r.2)))
    (λ y. let r = any_yes a l y in (r.0, r.1, omega (arith, r.2)))
    (or_yes _ _ e)

pub any_no : (a : Area) (l : List Area) (x : ℕ) → shares_any a l ≡ false → holds a x ≡ 1 → holders l x ≡ 0
unfolding shares_any holders
any_no a [] x e h = refl
any_no a (b ∷ l) x e h =
    let n = or_no _ _ e in omega (arith, shares_no a b x n.0, any_no a l x n.1 h)

-- ---- `meet` is false exactly where no sector lies in two areas
pub meet_two : (l : List Area) → meet l ≡ true → (x : ℕ) × (2 ≤ holders l x)
unfolding meet holders
meet_two [] e = absurd (false≢true e)
meet_two (a ∷ l) e =
    ⊎_elim
    (λ y. let r = any_yes a l y in (r.0, omega (arith, r.1, r.2)))
    (λ y. let r = meet_two l y in (r.0, omega (arith, r.1)))
    (or_yes _ _ e)

pub meet_apart : (l : List Area) → meet l ≡ false → Apart l
unfolding meet holders
meet_apart [] e x = omega arith
meet_apart (a ∷ l) e x =
    let n = or_no _ _ e in
    ⊎_elim (λ y. omega (arith, any_no a l x n.0 y.2)) (λ y. omega (arith, meet_apart l n.1 x)) (holds_or a x)

pub apart_meet : (l : List Area) → Apart l → meet l ≡ false
apart_meet l p =
    ⊎_elim (λ y. let r = meet_two l y in absurd (omega (arith, r.1, p r.0))) (λ n. n) (true_or_false (meet l))

pub two_meet : (l : List Area) (x : ℕ) → 2 ≤ holders l x → meet l ≡ true
two_meet l x two =
    ⊎_elim (λ y. y) (λ n. absurd (omega (arith, two, meet_apart l n x))) (true_or_false (meet l))

-- ---- lists put together
pub holders_append : (l m : List Area) (x : ℕ) → holders (l ++ m) x ≡ holders l x + holders m x
unfolding holders
holders_append [] m x = omega arith
holders_append (a ∷ l) m x = rw (holders_append l m x, add_assoc)

pub past_append : (f : ℕ) (l m : List Area) → runs_past f (l ++ m) ≡ (runs_past f l || runs_past f m)
unfolding runs_past
past_append f [] m = refl
past_append f (a ∷ l) m = rw (past_append f l m) (or_assoc (ends_past f a) (runs_past f l) (runs_past f m))
  where
    or_assoc : (p q r : Bool) → (p || (q || r)) ≡ ((p || q) || r)
    or_assoc true q r = refl
    or_assoc false q r = refl

-- past the file's end nothing is held
pub past_none : (f : ℕ) (l : List Area) → runs_past f l ≡ false → (x : ℕ) → f ≤ x → holders l x ≡ 0
unfolding runs_past holders
past_none f [] e x h = refl
past_none f (a ∷ l) e x h =
    let n = or_no (ends_past f a) (runs_past f l) e in
    let k : a.first + a.sector_count ≤ f = omega (arith, ltb-false) in
    omega (arith, holds_over a x (omega arith), past_none f l n.1 x h)
