-- 8: nothing is misplaced exactly where the descriptor's numbers agree, the directory has a sector, and descriptor,
-- directories and tables lie in the file.
use Prim.Native.Nat.{ℕ, ◌+◌, ◌≤◌}
use mathlib.Core.Path.{◌≡◌}
use mathlib.Core.List.{List, []}
use mathlib.Core.Bool.{false, not, ◌&&◌}
use mathlib.Core.Logic.{⊎_elim}
use native.Mathlib.Omega.{arith}
use lib.Dec.{ltb, eqb}
use borrow.Author.Tests.{ltb-false, le-ltb, eqb-true, eqb-false, eq-eqb, ne_eqb, not-true, not-false}
use Rattle.base.proofs.Steps.{or_no, true_or_false}
use Rattle.format.specs.Geometry.{file_sectors}
use Rattle.format.specs.Header.{directory_entries_of}
use Rattle.format.specs.Areas.{area, descriptor_area, directory_area, redundant_area, table_areas, primary_tables}
use Rattle.format.specs.Areas.{redundant_tables, runs_past}
use Rattle.format.specs.Check.{descriptor_misplaced, directory_misplaced, redundant_directory_misplaced}
use Rattle.format.specs.Check.{primary_tables_misplaced, misplaced}
use Rattle.format.specs.declared.Header.{Header}
use Rattle.format.proofs.Picked.{pick_else, and_no, no_and, true_no, no_true}
use Rattle.format.proofs.Inside.{one_in, in_one, none_in, there_in, in_there}

-- the descriptor's numbers are both zero or both not
abbrev pub BothOrNone : Header → Type 0
BothOrNone h = (h.descriptor ≡ 0 → h.descriptor_sectors ≡ 0) × (h.descriptor_sectors ≡ 0 → h.descriptor ≡ 0)

module _ (f : ℕ) (h : Header) where
  -- ---- the descriptor
  pub descriptor_kept : descriptor_misplaced f h ≡ false → (BothOrNone h) × (runs_past f (descriptor_area h) ≡ false)
  descriptor_kept e =
      let a = or_no (eqb h.descriptor 0 && not (eqb h.descriptor_sectors 0)) _ e in
      let b = or_no (not (eqb h.descriptor 0) && eqb h.descriptor_sectors 0)
      (ltb f (h.descriptor + h.descriptor_sectors)) a.1 in (
        (λ q. eqb-true _ _ (not-false _ (and_no _ _ a.0 (eq-eqb _ _ q))), zero_too b.0),
        in_there f _ _
            (λ t. ltb-false f _ b.1),
      )
    where
      zero_too : (not (eqb h.descriptor 0) && eqb h.descriptor_sectors 0) ≡ false → h.descriptor_sectors ≡ 0
          → h.descriptor ≡ 0
      zero_too n q =
          ⊎_elim (λ t. eqb-true _ _ t)
          (λ z. absurd (eqb-false _ _ (and_no (not (eqb h.descriptor 0)) _ n (rw z)) q))
          (true_or_false (eqb h.descriptor 0))

  module _ (both : BothOrNone h) (inside : runs_past f (descriptor_area h) ≡ false) where
    descriptor_in : h.descriptor + h.descriptor_sectors ≤ f
    descriptor_in =
        ⊎_elim
        (λ t. let q : h.descriptor ≡ 0 = eqb-true _ _ t in omega (arith, both.0 q))
        (λ z.
        let n : h.descriptor_sectors ≡ 0 → ⊥ = λ q. eqb-false _ _ z (both.1 q) in
        there_in f _ (area h.descriptor h.descriptor_sectors) inside (rw (z, ne_eqb h.descriptor_sectors 0 n)))
        (true_or_false (eqb h.descriptor 0))

    kept_descriptor : descriptor_misplaced f h ≡ false
    kept_descriptor =
        rw (
          no_and (eqb h.descriptor 0) (not (eqb h.descriptor_sectors 0))
              (λ t. rw (eq-eqb h.descriptor_sectors 0 (both.0 (eqb-true _ _ t)))),
          no_and (not (eqb h.descriptor 0)) (eqb h.descriptor_sectors 0)
              (λ t. ne_eqb _ _ (λ q. eqb-false _ _ (not-true _ t) (both.1 q))),
          le-ltb f (h.descriptor + h.descriptor_sectors) descriptor_in,
        )

  -- ---- the directory
  pub directory_in : directory_misplaced f h ≡ false → h.directory + h.directory_sectors ≤ f
  directory_in e = ltb-false f _ (or_no (eqb h.directory 0) (ltb f (h.directory + h.directory_sectors)) e).1

  directory_kept : directory_misplaced f h ≡ false → (h.directory ≡ 0 → ⊥) × (runs_past f (directory_area h) ≡ false)
  directory_kept e =
      (eqb-false _ _ (or_no (eqb h.directory 0) _ e).0, in_one f _ [] (directory_in e) (none_in f))

  pub kept_directory : (h.directory ≡ 0 → ⊥) → runs_past f (directory_area h) ≡ false → directory_misplaced f h ≡ false
  kept_directory n inside =
      rw (
        ne_eqb h.directory 0 n,
        le-ltb f (h.directory + h.directory_sectors)
            (one_in f (area h.directory h.directory_sectors) [] inside).0,
      )

  -- ---- the redundant directory, where there is one
  pub redundant_in : redundant_directory_misplaced f h ≡ false → (h.redundant ≡ 0 → ⊥) → h.redundant + h.directory_sectors
      ≤ f
  redundant_in e one = there_in f _ (area h.redundant h.directory_sectors) e (rw (ne_eqb h.redundant 0 one))

pub redundant_tables_lem : (s : List ℕ) (h : Header) → (h.redundant ≡ 0 → ⊥)
    → redundant_tables s h ≡ table_areas s h.one_is_zero h.table_sectors h.redundant (directory_entries_of h)
unfolding redundant_tables
redundant_tables_lem s h one = pick_else _ _ _ (ne_eqb h.redundant 0 one)

-- ---- all of 8
pub record Places (s : List ℕ) (h : Header) : Type 0 where
  pub both : BothOrNone h
  pub descriptor : runs_past (file_sectors s) (descriptor_area h) ≡ false
  pub some : h.directory ≡ 0 → ⊥
  pub directory : runs_past (file_sectors s) (directory_area h) ≡ false
  pub redundant : runs_past (file_sectors s) (redundant_area h) ≡ false
  pub tables : runs_past (file_sectors s) (primary_tables s h) ≡ false
  pub copies : runs_past (file_sectors s) (redundant_tables s h) ≡ false

module _ (s : List ℕ) (h : Header) where
  pub places_kept : misplaced s h ≡ false → Places s h
  unfolding misplaced
  places_kept e =
      let f = file_sectors s in
      let a = true_no (descriptor_misplaced f h) _ e in
      let b = true_no (directory_misplaced f h) _ a.1 in
      let c = true_no (redundant_directory_misplaced f h) _ b.1 in
      let d = true_no (primary_tables_misplaced s h) _ c.1 in
      let i = descriptor_kept f h a.0 in
      let j = directory_kept f h b.0 in
      record {
        both = i.0;
        descriptor = i.1;
        some = j.0;
        directory = j.1;
        redundant = c.0;
        tables = d.0;
        copies = d.1;
      }

  pub primary_in : Places s h → h.directory + h.directory_sectors ≤ file_sectors s
  primary_in p = (one_in (file_sectors s) _ [] p.directory).0

  pub kept_places : Places s h → misplaced s h ≡ false
  unfolding misplaced
  kept_places p =
      no_true _ _ (kept_descriptor (file_sectors s) h p.both p.descriptor)
      (no_true _ _ (kept_directory (file_sectors s) h p.some p.directory)
      (no_true _ _ p.redundant (no_true _ _ p.tables p.copies)))
