-- Mending's steps, each premise as the code gives it.
use Prim.Native.Nat.{ℕ, ◌*◌, ◌/◌, ◌≤◌, ◌<◌}
use mathlib.Core.Path.{◌≡◌, refl, sym, ◌∙◌}
use mathlib.Core.List.{List}
use mathlib.Core.Bool.{Bool, true, false}
use native.Mathlib.Omega.{arith}
use lib.ListN.{length}
use borrow.Author.Tests.{lt-ltb, le-ltb, eq-eqb, ne_eqb}
use Rattle.base.specs.Bytes.{over}
use Rattle.base.specs.Pick.{pick}
use Rattle.format.specs.Header.{judge}
use Rattle.format.specs.Areas.{meet}
use Rattle.format.specs.Check.{misplaced, lowest_misplaced}
use Rattle.format.specs.Mend.{from_good, mended, directories_differ, areas_kept_apart, unmendable, changes, mended_if_room}
use Rattle.format.specs.Mend.{mend_good}
use Rattle.format.specs.Mend.{mend_from, mend, after_mend, mended_image, mended_list}
use Rattle.format.specs.Judged.{Sided}
use Rattle.format.specs.declared.Header.{Header}
use Rattle.format.specs.declared.Side.{Side}
use Rattle.format.specs.declared.MisplacedPart.{MisplacedPart}
use Rattle.format.specs.declared.Refusal.{Refusal}
use Rattle.format.specs.declared.Refusal.TheVariants.{Misplaced, NotMendable, TooLittleRoom}
use Rattle.format.proofs.Picked.{true_no}
use Rattle.header.proofs.HeaderAnswered.{judged_header}
use Rattle.mend.specs.MendTold.{MendTold}
use Rattle.std.specs.Prelude.{Result, Ok, Err}

-- a refusal leaves all
refusal_told : (answer : Result ℕ Refusal) (s : List ℕ) (g : Header) (l : List ℕ) (r : Refusal) → answer ≡ Err r
    → MendTold answer s g l (Err r) s l
unfolding after_mend
refusal_told answer s g l r e = rw e (record { told = refl; image = refl; list = refl })

-- ---- 40, then 21
module _ (s : List ℕ) (g : Header) (l : List ℕ) {b : Bool} (e : b ≡ unmendable s g) where
  pub unmendable_told : b ≡ true → MendTold (mend_good s g (length l)) s g l (Err NotMendable) s l
  unfolding mend_good pick
  unmendable_told t = refusal_told _ s g l NotMendable (rw (← e, t))

  module _ (f : b ≡ false) where
    pub frame_apart : meet (areas_kept_apart s g) ≡ false
    unfolding unmendable
    frame_apart = (true_no _ _ (true_no (directories_differ s g) _ (sym e ∙ f)).1).0

    module _ (count : ℕ) (w : 3 * count ≡ length (changes s g)) where
      pub short_told : length l < 3 * count → MendTold (mend_good s g (length l)) s g l (Err TooLittleRoom) s l
      unfolding mend_good mended_if_room pick
      short_told h =
          refusal_told _ s g l TooLittleRoom (rw (← e, f, lt-ltb (length l) (length (changes s g)) (omega arith)))

      module _ (h : 3 * count ≤ length l) where
        pub changes_fit : length (changes s g) ≤ length l
        changes_fit = omega arith

        pub mended_told : {x y : List ℕ} → x ≡ mended s g → y ≡ over l 0 (changes s g)
            → MendTold (mend_good s g (length l)) s g l (Ok count) x y
        unfolding mend_good mended_if_room pick after_mend
        mended_told p q =
            let few : length (changes s g) / 3 ≡ count = omega arith in
            rw (← e, f, le-ltb (length l) (length (changes s g)) (omega arith), few)
            (record { told = refl; image = p; list = q })

-- ---- 8, and whether there is a redundant directory
module _ (s : List ℕ) (h : Header) (side : Side) (l : List ℕ) {b : Bool} (e : b ≡ misplaced s h) where
  pub misplaced_told : b ≡ true → {p : MisplacedPart} → p ≡ lowest_misplaced s h
      → MendTold (mend_from s side (length l) (Ok h)) s (from_good side h) l (Err (Misplaced p)) s l
  unfolding mend_from pick
  misplaced_told t {p} low = refusal_told _ s _ l (Misplaced p) (rw (← e, t, ← low))

  module _ (f : b ≡ false) where
    pub single_told : h.redundant ≡ 0
        → MendTold (mend_from s side (length l) (Ok h)) s (from_good side h) l (Err NotMendable) s l
    unfolding mend_from pick
    single_told none = refusal_told _ s _ l NotMendable (rw (← e, f, eq-eqb h.redundant 0 none))

    module _ (two : h.redundant ≡ 0 → ⊥) {g : Header} (is : g ≡ from_good side h) where
      pub sided_of : judge s ≡ Ok h → Sided s g
      sided_of j = record { side = side; header = h; judged = j; kept = sym e ∙ f; two = two; is = is }

      pub sided_told : {r : Result ℕ Refusal} {x y : List ℕ} → MendTold (mend_good s g (length l)) s g l r x y
          → MendTold (mend_from s side (length l) (Ok h)) s (from_good side h) l r x y
      unfolding mend_from pick
      sided_told p = rw (← e, f, ne_eqb h.redundant 0 two, ← is) p

-- ---- the call
abbrev Answered : List ℕ → Side → List ℕ → Result ℕ Refusal → List ℕ → List ℕ → Type 0
Answered s side l r x y =
    (r ≡ mend s side (length l)) × ((x ≡ mended_image s side l) × (y ≡ mended_list s side l))

module _ (s : List ℕ) (side : Side) (l : List ℕ) (a : Result Header Refusal) (e : a ≡ judge s) where
  pub mend_refused_lem : (r : Refusal) → a ≡ Err r → Answered s side l (Err r) s l
  unfolding mend_from after_mend
  mend_refused_lem r q = rw (← e, q) (refl, (refl, refl))

  module _ (h : Header) (q : a ≡ Ok h) where
    pub mend_known : judge s ≡ Ok h
    mend_known = sym e ∙ q

    pub mend_told : {r : Result ℕ Refusal} {x y : List ℕ}
        → MendTold (mend_from s side (length l) (Ok h)) s (from_good side h) l r x y → Answered s side l r x y
    mend_told p = rw (← e, q, ← judged_header a s h e q) (p.told, (p.image, p.list))
