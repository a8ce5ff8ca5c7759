-- Refusal 8 names the lowest part that applies (request A8).
use Prim.Native.Nat.{ℕ, zero, suc, ◌+◌, ◌≤◌, ◌<◌}
use mathlib.Core.Path.{◌≡◌, refl, sym, ◌∙◌}
use mathlib.Core.List.{List}
use mathlib.Core.Bool.{Bool, true, false, not, ◌&&◌, or-true, false≢true}
use mathlib.Core.Logic.{⊎_elim}
use native.Mathlib.Omega.{arith}
use lib.Dec.{eqb}
use borrow.Author.Tests.{ltb-true, lt-ltb, eqb-true, eqb-false, eq-eqb, ne_eqb, not-true}
use Rattle.base.specs.Pick.{pick}
use Rattle.base.specs.Rows.{rows}
use Rattle.base.proofs.Steps.{or_yes, and_yes, true_or_false, lt_or_ge, cond_all}
use Rattle.format.specs.Geometry.{file_sectors}
use Rattle.format.specs.Header.{directory_entries_of, judge}
use Rattle.format.specs.Areas.{Area, area, if_there, named, table_areas, redundant_tables, runs_past}
use Rattle.format.specs.Check.{descriptor_misplaced, directory_misplaced, redundant_tables_misplaced, misplaced}
use Rattle.format.specs.Check.{lowest_misplaced}
use Rattle.format.specs.Check.{check_grains, check_layout, check_from, check}
use Rattle.format.specs.Answers.{part_number, verdict}
use Rattle.format.specs.declared.Header.{Header}
use Rattle.format.specs.declared.Entry.{Entry}
use Rattle.format.specs.declared.Entry.TheVariants.{Absent, Zero, Sector}
use Rattle.format.specs.declared.MisplacedPart.{MisplacedPart}
use Rattle.format.specs.declared.MisplacedPart.TheVariants.{Descriptor, Directory, RedundantDirectory}
use Rattle.format.specs.declared.MisplacedPart.TheVariants.{PrimaryTable, RedundantTable}
use Rattle.format.specs.declared.Refusal.TheVariants.{Misplaced}
use Rattle.format.proofs.Areas.{past_append}
use Rattle.format.proofs.HeaderRefusals.{judge_refuses}
use Rattle.format.proofs.Inside.{past_one, none_in, table_in}
use Rattle.format.proofs.LowestPart.{part_test, lowest_tested, tested_lowest, tested_misplaced}
use Rattle.format.proofs.Picked.{pick_then}
use Rattle.format.proofs.Places.{redundant_tables_lem}
use Rattle.laws.specs.Misplaced.{DescriptorMisplaced, DirectoryMisplaced, TableMisplaced, Applies, LowestPart}
use Rattle.laws.specs.Misplaced.DescriptorMisplaced.{sector_zero, sectors_zero, past}
use Rattle.laws.specs.Misplaced.DirectoryMisplaced.{sector_zero as at_zero, past as directory_past}
use Rattle.laws.proofs.FrameChecked.{grains_late}
use Rattle.std.specs.Prelude.{Result, Ok, Err}
use Rattle.format.specs.declared.Shape.{Shape}
use Rattle.format.specs.declared.Refusal.{Refusal}

-- ---- a list of areas of which one runs past F: which one
module _ (f : ℕ) where
  there_past : (there : Bool) (a : Area) → runs_past f (if_there there a) ≡ true
      → (there ≡ true) × (f < a.first + a.sector_count)
  unfolding if_there pick
  there_past true a e = (refl, ltb-true _ _ (sym (past_one f a) ∙ e))
  there_past false a e = absurd (false≢true (sym (none_in f) ∙ e))

  rows_past : (n : ℕ) (p : ℕ → List Area) → runs_past f (rows n p) ≡ true → (k : ℕ) × (k < n) × (runs_past f (p k) ≡ true)
  unfolding rows
  rows_past zero p e = absurd (false≢true (sym (none_in f) ∙ e))
  rows_past (suc n) p e =
      ⊎_elim (λ b. let r = rows_past n p b in (r.0, omega arith, r.2)) (λ b. (n, omega arith, b))
      (or_yes (runs_past f (rows n p)) (runs_past f (p n)) (sym (past_append f (rows n p) (p n)) ∙ e))

  named_past : (sectors : ℕ) (e : Entry) → runs_past f (named (λ x. sectors) e) ≡ true → (t : ℕ) × (e ≡ Sector t)
      × (f < t + sectors)
  unfolding named
  named_past sectors Absent e = absurd (false≢true (sym (none_in f) ∙ e))
  named_past sectors Zero e = absurd (false≢true (sym (none_in f) ∙ e))
  named_past sectors (Sector t) e = (t, refl, ltb-true _ _ (sym (past_one f (area t sectors)) ∙ e))

-- ---- each part by the check's own test for it
module _ (s : List ℕ) (h : Header) where
  descriptor_applies : descriptor_misplaced (file_sectors s) h ≡ true → DescriptorMisplaced s h
  descriptor_applies e =
      ⊎_elim
      (λ a. let b = and_yes (eqb h.descriptor 0) _ a in sector_zero (eqb-true _ _ b.0) (eqb-false _ _ (not-true _ b.1)))
      (λ a.
      ⊎_elim
      (λ b.
      let c = and_yes (not (eqb h.descriptor 0)) _ b in
      sectors_zero (eqb-false _ _ (not-true _ c.0)) (eqb-true _ _ c.1))
      (λ b. past (ltb-true _ _ b))
      (or_yes (not (eqb h.descriptor 0) && eqb h.descriptor_sectors 0) _ a))
      (or_yes (eqb h.descriptor 0 && not (eqb h.descriptor_sectors 0)) _ e)

  directory_applies : directory_misplaced (file_sectors s) h ≡ true → DirectoryMisplaced s h
  directory_applies e =
      ⊎_elim (λ z. at_zero (eqb-true _ _ z)) (λ l. directory_past (ltb-true _ _ l)) (or_yes (eqb h.directory 0) _ e)

  table_applies : (directory : ℕ)
      → runs_past (file_sectors s)
      (table_areas s h.one_is_zero h.table_sectors directory (directory_entries_of h)) ≡ true
      → TableMisplaced s h directory
  table_applies directory e =
      let r = rows_past (file_sectors s) _ _ e in
      let t = named_past (file_sectors s) _ _ r.2 in
      record { entry = r.0; used = r.1; table = t.0; names = t.1; past = t.2 }

  applied_table : (directory : ℕ) → TableMisplaced s h directory
      → runs_past (file_sectors s)
      (table_areas s h.one_is_zero h.table_sectors directory (directory_entries_of h)) ≡ true
  applied_table directory p =
      ⊎_elim (λ y. y)
      (λ n. absurd (omega (arith, table_in s _ _ directory _ n p.entry p.table p.used p.names)))
      (true_or_false _)

  copies_apply : redundant_tables_misplaced s h ≡ true → Applies s h RedundantTable
  unfolding redundant_tables pick
  copies_apply e =
      ⊎_elim (λ z. absurd (false≢true (sym (none_in (file_sectors s)) ∙ rw z at e)))
      (λ n. let one = eqb-false h.redundant 0 n in (one, table_applies h.redundant (rw n at e)))
      (true_or_false (eqb h.redundant 0))

  -- a part applies exactly where its test says so
  applies : (part : MisplacedPart) → part_test s h part ≡ true → Applies s h part
  applies Descriptor e = descriptor_applies e
  applies Directory e = directory_applies e
  applies RedundantDirectory e =
      let p = there_past (file_sectors s) (not (eqb h.redundant 0)) _ e in
      (eqb-false _ _ (not-true _ p.0), p.1)
  applies PrimaryTable e = table_applies h.directory e
  applies RedundantTable e = copies_apply e

  applied : (part : MisplacedPart) → Applies s h part → part_test s h part ≡ true
  unfolding if_there pick
  applied Descriptor (sector_zero z n) = rw (eq-eqb _ _ z, ne_eqb _ _ n)
  applied Descriptor (sectors_zero n z) = rw (ne_eqb _ _ n, eq-eqb _ _ z)
  applied Descriptor (past l) = rw (lt-ltb _ _ l, or-true, or-true)
  applied Directory (at_zero z) = rw (eq-eqb _ _ z)
  applied Directory (directory_past l) = rw (lt-ltb _ _ l, or-true)
  applied RedundantDirectory p = rw (ne_eqb _ _ p.0) (past_one (file_sectors s) _ ∙ lt-ltb _ _ p.1)
  applied PrimaryTable p = applied_table h.directory p
  applied RedundantTable p = rw (redundant_tables_lem s h p.0) (applied_table h.redundant p.1)

  -- ---- the lowest of them
  lowest_applies : misplaced s h ≡ true → Applies s h (lowest_misplaced s h)
  lowest_applies m = applies (lowest_misplaced s h) (lowest_tested s h m)

  none_lower : (part : MisplacedPart) → Applies s h part → part_number (lowest_misplaced s h) ≤ part_number part
  none_lower part p = tested_lowest s h part (applied part p)

  grains_other : (a : Result Shape Refusal) → check_grains s h ≡ a → (verdict a).number ≡ 8 → ⊥
  grains_other (Ok sizes) e n = omega arith
  grains_other (Err r) e n = omega (arith, grains_late s h r e)

-- ---- the check: 8 with this place exactly where it is the lowest part's
eight_from : (s : List ℕ) (a : Result Header Refusal) → judge s ≡ a → (verdict (check_from s a)).number ≡ 8
    → LowestPart s (verdict (check_from s a)).place
unfolding check_from check_layout
eight_from s (Err r) j e = absurd (judge_refuses s r j 8 (omega arith) (omega arith) e)
eight_from s (Ok h) j e =
    cond_all (λ a. (verdict a).number ≡ 8 → LowestPart s (verdict a).place) (misplaced s h) _ _
    (λ m n. record {
      header = h;
      judged = j;
      part = lowest_misplaced s h;
      is = refl;
      applies = lowest_applies s h m;
      lowest = λ lower l p. omega (arith, none_lower s h lower p);
    })
    (λ k n. absurd (grains_other s h (check_grains s h) refl n))
    e

pub eight_lowest : (s : List ℕ) → (verdict (check s)).number ≡ 8 → LowestPart s (verdict (check s)).place
eight_lowest s e = eight_from s (judge s) refl e

pub lowest_eight : (s : List ℕ) (p : ℕ) → LowestPart s p
    → verdict (check s) ≡ record { number = 8; place = p; capacity = 0; grain_size = 0 }
unfolding check_from check_layout
lowest_eight s p w =
    let h = w.header in
    let m = tested_misplaced s h w.part (applied s h w.part w.applies) in
    let is : part_number (lowest_misplaced s h) ≡ p =
    ⊎_elim (λ l. absurd (w.lowest (lowest_misplaced s h) l (lowest_applies s h m)))
    (λ l. let k = none_lower s h w.part w.applies in let e = w.is in omega arith)
    (lt_or_ge (part_number (lowest_misplaced s h)) p) in
    rw (w.judged, pick_then (misplaced s h) (Err (Misplaced (lowest_misplaced s h))) (check_grains s h) m, is)
