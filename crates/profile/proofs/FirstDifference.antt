-- What decides whether two files are the same, and where they first differ.
use Prim.Native.Nat.{ℕ, zero, suc, ◌≤◌, ◌<◌}
use mathlib.Core.Path.{◌≡◌, refl, ap}
use mathlib.Core.List.{List, [], ◌∷◌}
use mathlib.Core.Bool.{true, false}
use native.Mathlib.Omega.{arith}
use lib.Dec.{eqb}
use lib.ListN.{length, get_or}
use lib.Seq.{ext_get_or}
use borrow.Author.Tests.{eq-eqb, ne_eqb}
use Rattle.base.specs.Pick.{pick}
use Rattle.base.specs.Bytes.{SameBytes}
use Rattle.format.specs.Profile.{same_file, first_difference, profile_form}
use Rattle.format.specs.declared.Header.{Header}
use Rattle.format.specs.declared.Refusal.TheVariants.{NotNormal}
use Rattle.std.specs.Prelude.{Err}
use Rattle.format.specs.AnswerParts.{accepted_as}

-- at p one of both ends, or their bytes differ
pub record Parted (a b : List ℕ) (p : ℕ) : Type 0 where
  pub first : p ≤ length a
  pub second : p ≤ length b
  pub bytes : p < length a → p < length b → get_or a p 0 ≡ get_or b p 0 → ⊥
  pub ends : p ≡ length a → p ≡ length b → ⊥

parted : (a b : List ℕ) (p : ℕ) → ((k : ℕ) → k < p → get_or a k 0 ≡ get_or b k 0) → Parted a b p
    → (same_file a b ≡ false) × (first_difference a b ≡ p)
unfolding same_file first_difference pick
parted [] [] p same w = absurd (w.ends (omega (arith, w.first)) (omega (arith, w.first)))
parted [] (y ∷ b) p same w = (refl, omega (arith, w.first))
parted (x ∷ a) [] p same w = (refl, omega (arith, w.second))
parted (x ∷ a) (y ∷ b) zero same w =
    let n : eqb x y ≡ false = ne_eqb x y (w.bytes (omega arith) (omega arith)) in (rw n, rw n)
parted (x ∷ a) (y ∷ b) (suc p) same w =
    let e : eqb x y ≡ true = eq-eqb x y (same 0 (omega arith)) in
    let left = parted a b p (λ k l. same (suc k) (omega arith)) (record {
      first = omega (arith, w.first);
      second = omega (arith, w.second);
      bytes = λ l m. w.bytes (omega arith) (omega arith);
      ends = λ l m. w.ends (omega arith) (omega arith);
    }) in
    (rw e left.0, rw e (ap suc left.1))

itself : (a : List ℕ) → same_file a a ≡ true
unfolding same_file
itself [] = refl
itself (x ∷ a) = rw (eq-eqb x x refl) (itself a)

module _ (h : Header) (a b : List ℕ) where
  pub differs : (p : ℕ) → SameBytes a b 0 p → Parted a b p → Err (NotNormal p) ≡ profile_form h a b
  unfolding profile_form pick
  differs p same w =
      let d = parted a b p (λ k l. same k (omega arith) (omega arith)) w in rw (d.0, d.1)

  -- one is a start of the other
  pub shorter : SameBytes a b 0 (length a) → length a < length b → Err (NotNormal (length a)) ≡ profile_form h a b
  shorter same l =
      differs (length a) same
      (record { first = omega arith; second = omega arith; bytes = λ m n q. omega arith; ends = λ m n. omega arith })

  pub longer : (p : ℕ) → p ≡ length b → SameBytes a b 0 p → p < length a → Err (NotNormal p) ≡ profile_form h a b
  longer p e same l =
      differs p same
      (record { first = omega arith; second = omega arith; bytes = λ m n q. omega arith; ends = λ m n. omega arith })

  pub same_file_lem : length a ≡ length b → SameBytes a b 0 (length a)
      → accepted_as h.capacity h.grain_size ≡ profile_form h a b
  unfolding profile_form pick
  same_file_lem long same =
      let e : a ≡ b = ext_get_or 0 a b long (λ i l. same i (omega arith) (omega arith)) in
      let t : same_file a b ≡ true = rw (← e) (itself a) in
      rw t
