-- The place of 8: where a part is misplaced, the lowest one that is (request A8).
use Prim.Native.Nat.{ℕ, ◌≤◌}
use mathlib.Core.Path.{◌≡◌, refl, sym, ◌∙◌}
use mathlib.Core.List.{List}
use mathlib.Core.Bool.{Bool, true, false, false≢true}
use mathlib.Core.Logic.{⊎_elim}
use lib.Dec.{lit≤}
use Rattle.base.specs.Pick.{pick}
use Rattle.base.proofs.Steps.{true_or_false, cond_all}
use Rattle.format.specs.Geometry.{file_sectors}
use Rattle.format.specs.Check.{descriptor_misplaced, directory_misplaced, redundant_directory_misplaced}
use Rattle.format.specs.Check.{primary_tables_misplaced, redundant_tables_misplaced, misplaced, lowest_misplaced}
use Rattle.format.specs.Answers.{part_number}
use Rattle.format.specs.declared.Header.{Header}
use Rattle.format.specs.declared.MisplacedPart.{MisplacedPart}
use Rattle.format.specs.declared.MisplacedPart.TheVariants.{Descriptor, Directory, RedundantDirectory}
use Rattle.format.specs.declared.MisplacedPart.TheVariants.{PrimaryTable, RedundantTable}
use Rattle.format.proofs.Picked.{true_no}

-- ---- the first of five tests that holds, and the others
abbrev pub among : Bool → Bool → Bool → Bool → Bool → MisplacedPart → Bool
among a b c d e Descriptor = a
among a b c d e Directory = b
among a b c d e RedundantDirectory = c
among a b c d e PrimaryTable = d
among a b c d e RedundantTable = e

abbrev any_of : Bool → Bool → Bool → Bool → Bool → Bool
any_of a b c d e = pick a true (pick b true (pick c true (pick d true e)))

abbrev first_of : Bool → Bool → Bool → Bool → MisplacedPart
first_of a b c d =
    pick a Descriptor (pick b Directory (pick c RedundantDirectory (pick d PrimaryTable RedundantTable)))

first_holds : (a b c d e : Bool) → any_of a b c d e ≡ true → among a b c d e (first_of a b c d) ≡ true
unfolding pick
first_holds true b c d e any = refl
first_holds false true c d e any = refl
first_holds false false true d e any = refl
first_holds false false false true e any = refl
first_holds false false false false e any = any

up_to : (n : ℕ) (b : Bool) (p q : MisplacedPart) → part_number p ≤ n → part_number q ≤ n → part_number (pick b p q) ≤ n
up_to n b p q l m = cond_all (λ part. part_number part ≤ n) b p q (λ t. l) (λ f. m)

first_low : (a b c d e : Bool) (part : MisplacedPart) → among a b c d e part ≡ true
    → part_number (first_of a b c d) ≤ part_number part
unfolding pick
first_low a b c d e Descriptor t = rw t (lit≤ tt)
first_low a b c d e Directory t = rw t (up_to 2 a _ _ (lit≤ tt) (lit≤ tt))
first_low a b c d e RedundantDirectory t = rw t (up_to 3 a _ _ (lit≤ tt) (up_to 3 b _ _ (lit≤ tt) (lit≤ tt)))
first_low a b c d e PrimaryTable t =
    rw t (up_to 4 a _ _ (lit≤ tt) (up_to 4 b _ _ (lit≤ tt) (up_to 4 c _ _ (lit≤ tt) (lit≤ tt))))
first_low a b c d e RedundantTable t =
    up_to 5 a _ _ (lit≤ tt)
    (up_to 5 b _ _ (lit≤ tt) (up_to 5 c _ _ (lit≤ tt) (up_to 5 d _ _ (lit≤ tt) (lit≤ tt))))

any_holds : (a b c d e : Bool) (part : MisplacedPart) → among a b c d e part ≡ true → any_of a b c d e ≡ true
any_holds a b c d e part t =
    ⊎_elim (λ y. y)
    (λ n.
    let i = true_no a _ n in
    let j = true_no b _ i.1 in
    let k = true_no c _ j.1 in
    let m = true_no d e k.1 in
    absurd (false≢true (sym (none i.0 j.0 k.0 m.0 m.1 part) ∙ t)))
    (true_or_false (any_of a b c d e))
  where
    none : a ≡ false → b ≡ false → c ≡ false → d ≡ false → e ≡ false → (part : MisplacedPart) → among a b c d e part ≡ false
    none p q r u v Descriptor = p
    none p q r u v Directory = q
    none p q r u v RedundantDirectory = r
    none p q r u v PrimaryTable = u
    none p q r u v RedundantTable = v

-- ---- the parts of 8, each by its own test
module _ (s : List ℕ) (h : Header) where
  abbrev pub part_test : MisplacedPart → Bool
  part_test =
      among (descriptor_misplaced (file_sectors s) h) (directory_misplaced (file_sectors s) h)
      (redundant_directory_misplaced (file_sectors s) h) (primary_tables_misplaced s h) (redundant_tables_misplaced s h)

  -- no part below the lowest is misplaced, and where one is misplaced, the lowest is
  pub tested_lowest : (part : MisplacedPart) → part_test part ≡ true → part_number (lowest_misplaced s h) ≤ part_number part
  unfolding lowest_misplaced
  tested_lowest part t = first_low _ _ _ _ _ part t

  pub lowest_tested : misplaced s h ≡ true → part_test (lowest_misplaced s h) ≡ true
  unfolding misplaced lowest_misplaced
  lowest_tested m = first_holds _ _ _ _ _ m

  pub tested_misplaced : (part : MisplacedPart) → part_test part ≡ true → misplaced s h ≡ true
  unfolding misplaced
  tested_misplaced part t = any_holds _ _ _ _ _ part t
