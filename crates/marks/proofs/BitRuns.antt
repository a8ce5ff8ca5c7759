-- A run by its parts, and what a test of it tells.
use Prim.Native.Nat.{ℕ, ◌+◌, ◌*◌, ◌-◌, ◌/◌, ◌≤◌, ◌<◌, min, max}
use mathlib.Core.Path.{◌≡◌, refl, ◌∙◌}
use mathlib.Core.Bool.{Bool, true, false, ◌&&◌, true≢false, false≢true}
use mathlib.Core.Logic.{⊎_elim}
use mathlib.Core.List.{List}
use native.Mathlib.Omega.{arith}
use lib.Dec.{eqb}
use borrow.Author.Tests.{eqb-true, eqb-false}
use Rattle.base.proofs.Steps.{lt_or_ge}
use Rattle.marks.specs.Marks.{Free, Taken, Put, Marking, Tested}

-- ---- a run is marked, free or taken by its parts
pub put_none : (ws : List ℕ) (f e : ℕ) → e ≤ f → Put ws ws f e
put_none ws f e h = record { size = refl; inside = λ s l u. omega arith; under = λ s u. refl; over = λ s l. refl }

pub put_join : {xs ys zs : List ℕ} {f m e : ℕ} → f ≤ m → m ≤ e → Put xs ys f m → Put ys zs m e → Put xs zs f e
put_join {m = m} low high p q =
    record {
      size = q.size ∙ p.size;
      inside = λ s l u. ⊎_elim (λ h. q.under s h ∙ p.inside s l h) (λ h. q.inside s h u) (lt_or_ge s m);
      under = λ s u. q.under s (omega arith) ∙ p.under s u;
      over = λ s l. q.over s l ∙ p.over s (omega arith);
    }

pub free_join : (ws : List ℕ) {f m e : ℕ} → Free ws f m → Free ws m e → Free ws f e
free_join ws {f} {m} {e} p q s l u = ⊎_elim (λ h. p s l h) (λ h. q s h u) (lt_or_ge s m)

pub taken_widen : (ws : List ℕ) {f e f' e' : ℕ} → f' ≤ f → e ≤ e' → Taken ws f e → Taken ws f' e'
taken_widen ws low high t = (t.0, omega (arith, t.1), omega (arith, t.2), t.3)

-- ---- a test
module _ (ws : List ℕ) (from end : ℕ) where
  pub tested_free : Free ws from end → Tested ws from end true
  tested_free f = record { free = λ y. f; taken = λ n. absurd (true≢false n) }

  pub tested_taken : Taken ws from end → Tested ws from end false
  tested_taken t = record { free = λ y. absurd (false≢true y); taken = λ n. t }

  -- by a number that is 0 where the run is free
  pub tested_zero : (x : ℕ) → (x ≡ 0 → Tested ws from end true) → ((x ≡ 0 → ⊥) → Tested ws from end false)
      → Tested ws from end (eqb x 0)
  tested_zero x f t = go (eqb x 0) refl
    where
      go : (b : Bool) → eqb x 0 ≡ b → Tested ws from end b
      go true e = f (eqb-true x 0 e)
      go false e = t (eqb-false x 0 e)

pub tested_join : {ws : List ℕ} {f m e : ℕ} {p q : Bool} → f ≤ m → m ≤ e → Tested ws f m p → Tested ws m e q
    → Tested ws f e (p && q)
tested_join {ws} {p = true} low high t u =
    record {
      free = λ y. free_join ws (t.free refl) (u.free y);
      taken = λ n. taken_widen ws low (omega arith) (u.taken n);
    }
tested_join {ws} {p = false} low high t u = tested_taken ws _ _ (taken_widen ws (omega arith) high (t.taken refl))

-- ---- as the code cuts a run: the part in its first word, whole words, the part in its last word
module _ (from end : ℕ) (some : from < end) where
  abbrev first : ℕ
  first = from / 64

  abbrev last : ℕ
  last = (end - 1) / 64

  -- the part of the run in word j
  abbrev low : ℕ → ℕ
  low j = max from (j * 64)

  abbrev high : ℕ → ℕ
  high j = min end ((j + 1) * 64)

  first_low : low first ≡ from
  first_low = omega arith

  -- all in one word
  module _ (one : last ≤ first) where
    one_high : high first ≡ end
    one_high = omega arith

    pub put_one : (ws xs : List ℕ) → Put ws xs (low first) (high first) → Put ws xs from end
    put_one ws xs p = rw (first_low, one_high) at p

    pub tested_one : (ws : List ℕ) (r : Bool) → Tested ws (low first) (high first) r → Tested ws from end r
    tested_one ws r t = rw (first_low, one_high) at t

  -- in two, or more
  module _ (more : first < last) where
    pub put_three : (ws xs ys zs : List ℕ) → Put ws xs from ((first + 1) * 64) → Put xs ys ((first + 1) * 64) (last * 64)
        → Put ys zs (last * 64) end → Put ws zs from end
    put_three ws xs ys zs p q r = put_join (omega arith) (omega arith) p (put_join (omega arith) (omega arith) q r)

    pub tested_three : (ws : List ℕ) (p q r : Bool) → Tested ws from ((first + 1) * 64) p
        → Tested ws ((first + 1) * 64) (last * 64) q → Tested ws (last * 64) end r → Tested ws from end ((p && q) && r)
    tested_three ws p q r t u v = tested_join (omega arith) (omega arith) (tested_join (omega arith) (omega arith) t u) v

-- ---- what is done by a test
pub marking_none : (ws : List ℕ) (from count : ℕ) → count ≡ 0 → Marking ws ws from (from + count) true
marking_none ws from count z =
    record {
      was_free = λ e s l u. absurd (omega arith);
      now_put = λ e. put_none ws from (from + count) (omega arith);
      was_taken = λ e. absurd (true≢false e);
      unchanged = λ e. absurd (true≢false e);
    }

module _ (ws : List ℕ) (from end : ℕ) (r : Bool) (t : Tested ws from end r) where
  pub marking_done : (xs : List ℕ) → r ≡ true → Put ws xs from end → Marking ws xs from end true
  marking_done xs y p =
      record {
        was_free = λ e. t.free y;
        now_put = λ e. p;
        was_taken = λ e. absurd (true≢false e);
        unchanged = λ e. absurd (true≢false e);
      }

  pub marking_refused : r ≡ false → Marking ws ws from end false
  marking_refused n =
      record {
        was_free = λ e. absurd (false≢true e);
        now_put = λ e. absurd (false≢true e);
        was_taken = λ e. t.taken n;
        unchanged = λ e. refl;
      }
