-- What a test in the code says of a `pick` in a contract: `search steps` closes a `returns` whose contract is a chain of
-- `pick`. A predicate's call gives r ≡ b, its branch r ≡ true or r ≡ false; a comparison gives the fact on the numbers.
use Prim.Native.Nat.{ℕ, ◌<◌, ◌≤◌}
use mathlib.Core.Path.{◌≡◌, refl, sym, ◌∙◌}
use mathlib.Core.Bool.{Bool, true, false, not, ◌&&◌, ◌||◌, true≢false, false≢true}
use mathlib.Core.Logic.{◌⊎◌, inl, inr, ⊎_elim}
use lib.Dec.{ltb, leb, eqb}
use borrow.Author.Tests.{ltb-true, ltb-false, lt-ltb, le-ltb, le-leb, lt-leb, eq-eqb, ne_eqb}
use Rattle.base.specs.Pick.{pick}

module _ {A : Type 0} (x y z : A) where
  pub stop : {r b : Bool} → r ≡ b → r ≡ true → z ≡ x → z ≡ pick b x y
  unfolding pick
  stop e t q = rw (sym e ∙ t) q

  pub skip : {r b : Bool} → r ≡ b → r ≡ false → z ≡ y → z ≡ pick b x y
  unfolding pick
  skip e f q = rw (sym e ∙ f) q

  module _ (a b : ℕ) where
    pub stop_lt : a < b → z ≡ x → z ≡ pick (ltb a b) x y
    stop_lt h q = stop (sym (lt-ltb a b h)) refl q

    pub skip_lt : b ≤ a → z ≡ y → z ≡ pick (ltb a b) x y
    skip_lt h q = skip (sym (le-ltb a b h)) refl q

    pub stop_le : a ≤ b → z ≡ x → z ≡ pick (leb a b) x y
    stop_le h q = stop (sym (le-leb a b h)) refl q

    pub skip_le : b < a → z ≡ y → z ≡ pick (leb a b) x y
    skip_le h q = skip (sym (lt-leb a b h)) refl q

    pub stop_eq : a ≡ b → z ≡ x → z ≡ pick (eqb a b) x y
    stop_eq h q = stop (sym (eq-eqb a b h)) refl q

    pub skip_eq : (a ≡ b → ⊥) → z ≡ y → z ≡ pick (eqb a b) x y
    skip_eq h q = skip (sym (ne_eqb a b h)) refl q

pub ruleset steps = (stop, skip, stop_lt, skip_lt, stop_le, skip_le, stop_eq, skip_eq)

-- ---- tests
-- of several rules, where none was broken, and where one was
pub or_no : (a b : Bool) → (a || b) ≡ false → (a ≡ false) × (b ≡ false)
or_no true b e = absurd (true≢false e)
or_no false b e = (refl, e)

pub or_yes : (a b : Bool) → (a || b) ≡ true → (a ≡ true) ⊎ (b ≡ true)
or_yes true b e = inl refl
or_yes false b e = inr e

pub and_yes : (a b : Bool) → (a && b) ≡ true → (a ≡ true) × (b ≡ true)
and_yes true b e = (refl, e)
and_yes false b e = absurd (false≢true e)

pub and_both : (a b c : Bool) → (a ≡ true → b ≡ c) → (a && b) ≡ (a && c)
and_both true b c f = f refl
and_both false b c f = refl

pub not_no : (b : Bool) → not b ≡ false → b ≡ true
not_no true e = refl
not_no false e = absurd (true≢false e)

pub true_or_false : (b : Bool) → (b ≡ true) ⊎ (b ≡ false)
true_or_false true = inl refl
true_or_false false = inr refl

pub lt_or_ge : (a b : ℕ) → (a < b) ⊎ (b ≤ a)
lt_or_ge a b = go (ltb a b) refl
  where
    go : (t : Bool) → ltb a b ≡ t → (a < b) ⊎ (b ≤ a)
    go true e = inl (ltb-true a b e)
    go false e = inr (ltb-false a b e)

-- a comparison of a number that a call gave
pub given_eq : {a b : ℕ} (n : ℕ) → a ≡ b → eqb a n ≡ eqb b n
given_eq n e = rw e

-- two comparisons that hold together
pub same_lt : (a b c d : ℕ) → (a < b → c < d) → (b ≤ a → d ≤ c) → ltb a b ≡ ltb c d
same_lt a b c d f g =
    ⊎_elim (λ l. lt-ltb a b l ∙ sym (lt-ltb c d (f l))) (λ l. le-ltb a b l ∙ sym (le-ltb c d (g l))) (lt_or_ge a b)

-- ---- the other way: what a value that came out of a chain of `pick` tells
-- what holds of both ends, each under its test
pub cond_all : {A : Type 0} (P : A → Type 0) (b : Bool) (x y : A) → (b ≡ true → P x) → (b ≡ false → P y) → P (pick b x y)
unfolding pick
cond_all P true x y f g = f refl
cond_all P false x y f g = g refl

-- two chains over the same tests
pub pick_both : {A B : Type 0} (P : A → B → Type 0) (b : Bool) (x y : A) (v w : B) → (b ≡ true → P x v)
    → (b ≡ false → P y w) → P (pick b x y) (pick b v w)
unfolding pick
pick_both P true x y v w f g = f refl
pick_both P false x y v w f g = g refl
