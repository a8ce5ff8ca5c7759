-- What a value that came out of a chain of `pick` tells of the tests on the way.
use Prim.Native.Nat.{ℕ}
use mathlib.Core.Path.{◌≡◌, refl}
use mathlib.Core.Bool.{Bool, true, false, ◌&&◌, true≢false, false≢true}
use native.Mathlib.Omega.{arith}
use Rattle.base.specs.Pick.{pick}
use Rattle.format.specs.declared.Header.{Header}
use Rattle.format.specs.declared.Refusal.{Refusal}
use Rattle.std.specs.Prelude.{Result, Ok, Err}

-- the test holds, or fails
pub pick_then : {A : Type 0} (b : Bool) (x y : A) → b ≡ true → pick b x y ≡ x
unfolding pick
pick_then b x y e = rw e

pub pick_else : {A : Type 0} (b : Bool) (x y : A) → b ≡ false → pick b x y ≡ y
unfolding pick
pick_else b x y e = rw e

-- what came out is not the first, so the test failed
pub passed : {A : Type 0} (b : Bool) (x y z : A) → (x ≡ z → ⊥) → pick b x y ≡ z → (b ≡ false) × (y ≡ z)
unfolding pick
passed true x y z n e = absurd (n e)
passed false x y z n e = (refl, e)

-- no fault: the rule is kept, and there is none after it
pub none_found : (b : Bool) (r : Refusal) (y : Result (Unit {0}) Refusal) → pick b (Err r) y ≡ (Ok tt)
    → (b ≡ false) × (y ≡ (Ok tt))
none_found b r y e = passed b (Err r) y (Ok tt) (λ q. let z : ◌≡◌ {A = ℕ} 0 1 = cc in omega arith) e

-- a header that is known was not refused here
pub known_past : (b : Bool) (r : Refusal) (y : Result Header Refusal) (h : Header) → pick b (Err r) y ≡ Ok h → (b ≡ false)
    × (y ≡ Ok h)
known_past b r y h e = passed b (Err r) y (Ok h) (λ q. let z : ◌≡◌ {A = ℕ} 0 1 = cc in omega arith) e

-- of rules that are true where broken, none is
pub true_no : (b y : Bool) → pick b true y ≡ false → (b ≡ false) × (y ≡ false)
true_no b y e = passed b true y false true≢false e

pub no_true : (b y : Bool) → b ≡ false → y ≡ false → pick b true y ≡ false
unfolding pick
no_true b y e f = rw (e, f)

-- ---- a rule under a condition
pub and_no : (a b : Bool) → (a && b) ≡ false → a ≡ true → b ≡ false
and_no true b e t = e
and_no false b e t = absurd (false≢true t)

pub no_and : (a b : Bool) → (a ≡ true → b ≡ false) → (a && b) ≡ false
no_and true b f = f refl
no_and false b f = refl
