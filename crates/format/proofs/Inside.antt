-- All areas lie in sectors 0 to F-1: area by area, group by group, and entry by entry.
use Prim.Native.Nat.{ℕ, zero, suc, ◌+◌, ◌≤◌, ◌<◌}
use mathlib.Core.Path.{◌≡◌, refl, sym, ◌∙◌}
use mathlib.Core.List.{List, [], ◌∷◌, ◌++◌}
use mathlib.Core.Bool.{Bool, true, false, or-false}
use mathlib.Core.Logic.{⊎_elim}
use native.Mathlib.Omega.{arith}
use lib.ListN.{length}
use borrow.Author.Tests.{ltb-false, le-ltb}
use Rattle.base.specs.Pick.{pick}
use Rattle.base.specs.Rows.{rows}
use Rattle.base.proofs.Steps.{or_no, lt_or_ge}
use Rattle.format.specs.Geometry.{file_sectors}
use Rattle.format.specs.Entries.{meaning_at}
use Rattle.format.specs.Areas.{Area, if_there, named, table_areas, header_area, descriptor_area, directory_area, redundant_area}
use Rattle.format.specs.Areas.{primary_tables, redundant_tables, footer_area, last_area, grain_areas, areas, ends_past}
use Rattle.format.specs.Areas.{runs_past}
use Rattle.format.specs.Accepted.{area_at}
use Rattle.format.specs.declared.Header.{Header}
use Rattle.format.specs.declared.Entry.TheVariants.{Sector}
use Rattle.format.proofs.Areas.{past_append}

module _ (f : ℕ) where
  -- ---- one area, and the others
  pub one_in : (a : Area) (l : List Area) → runs_past f (a ∷ l) ≡ false → (a.first + a.sector_count ≤ f)
      × (runs_past f l ≡ false)
  unfolding runs_past
  one_in a l e = let n = or_no (ends_past f a) (runs_past f l) e in (ltb-false _ _ n.0, n.1)

  pub in_one : (a : Area) (l : List Area) → a.first + a.sector_count ≤ f → runs_past f l ≡ false → runs_past f (a ∷ l) ≡ false
  unfolding runs_past
  in_one a l h e = rw (le-ltb f (a.first + a.sector_count) h, e)

  pub past_one : (a : Area) → runs_past f (a ∷ []) ≡ ends_past f a
  unfolding runs_past
  past_one a = or-false (ends_past f a)

  pub none_in : runs_past f [] ≡ false
  unfolding runs_past
  none_in = refl

  -- ---- each area by its number in the list
  pub each_in : (l : List Area) → runs_past f l ≡ false → (i : ℕ) → i < length l
      → (area_at l i).first + (area_at l i).sector_count
      ≤ f
  each_in [] e i h = absurd (omega arith)
  each_in (a ∷ l) e zero h = (one_in a l e).0
  each_in (a ∷ l) e (suc i) h = each_in l (one_in a l e).1 i (omega arith)

  pub in_each : (l : List Area) → ((i : ℕ) → i < length l → (area_at l i).first + (area_at l i).sector_count ≤ f)
      → runs_past f l
      ≡ false
  in_each [] h = none_in
  in_each (a ∷ l) h = in_one a l (h 0 (omega arith)) (in_each l (λ i b. h (suc i) (omega arith)))

  -- ---- two groups
  pub both_in : (l m : List Area) → runs_past f (l ++ m) ≡ false → (runs_past f l ≡ false) × (runs_past f m ≡ false)
  both_in l m e = or_no _ _ (sym (past_append f l m) ∙ e)

  pub in_both : (l m : List Area) → runs_past f l ≡ false → runs_past f m ≡ false → runs_past f (l ++ m) ≡ false
  in_both l m e h = past_append f l m ∙ rw (e, h)

  -- ---- rows
  pub rows_in : (n : ℕ) (p : ℕ → List Area) → runs_past f (rows n p) ≡ false → (k : ℕ) → k < n → runs_past f (p k) ≡ false
  unfolding rows
  rows_in zero p e k h = absurd (omega arith)
  rows_in (suc n) p e k h =
      let b = both_in (rows n p) (p n) e in
      ⊎_elim (λ l. rows_in n p b.0 k l) (λ g. let q : k ≡ n = omega arith in rw q b.1) (lt_or_ge k n)

  pub in_rows : (n : ℕ) (p : ℕ → List Area) → ((k : ℕ) → k < n → runs_past f (p k) ≡ false) → runs_past f (rows n p) ≡ false
  unfolding rows
  in_rows zero p h = none_in
  in_rows (suc n) p h = in_both (rows n p) (p n) (in_rows n p (λ k l. h k (omega arith))) (h n (omega arith))

  -- ---- an area that an image may have, and one that an entry names
  pub there_in : (there : Bool) (a : Area) → runs_past f (if_there there a) ≡ false → there ≡ true
      → a.first + a.sector_count ≤ f
  unfolding if_there pick
  there_in there a e t = (one_in a [] (rw t at e)).0

  pub in_there : (there : Bool) (a : Area) → (there ≡ true → a.first + a.sector_count ≤ f) → runs_past f (if_there there a)
      ≡ false
  unfolding if_there pick
  in_there true a h = in_one a [] (h refl) none_in
  in_there false a h = none_in

  pub named_in : (sectors : ℕ → ℕ) (e : ℕ) → runs_past f (named sectors (Sector e)) ≡ false → e + sectors e ≤ f
  unfolding named
  named_in sectors e q = (one_in _ [] q).0

-- a table that a directory names, where no table of it runs past F
pub table_in : (s : List ℕ) (one_is_zero : Bool) (sectors directory n : ℕ)
    → runs_past (file_sectors s) (table_areas s one_is_zero sectors directory n) ≡ false
    → (d u : ℕ) → d < n → meaning_at s one_is_zero directory d ≡ Sector u → u + sectors ≤ file_sectors s
table_in s one_is_zero sectors directory n k d u l e =
    let r = rows_in (file_sectors s) n (λ i. named (λ j. sectors) (meaning_at s one_is_zero directory i)) k d l in
    named_in (file_sectors s) (λ j. sectors) u (rw e at r)

-- ---- the groups of an image
pub record Inside (s : List ℕ) (h : Header) : Type 0 where
  pub header : runs_past (file_sectors s) (header_area h) ≡ false
  pub descriptor : runs_past (file_sectors s) (descriptor_area h) ≡ false
  pub directory : runs_past (file_sectors s) (directory_area h) ≡ false
  pub redundant : runs_past (file_sectors s) (redundant_area h) ≡ false
  pub tables : runs_past (file_sectors s) (primary_tables s h) ≡ false
  pub copies : runs_past (file_sectors s) (redundant_tables s h) ≡ false
  pub footer : runs_past (file_sectors s) (footer_area s h) ≡ false
  pub last : runs_past (file_sectors s) (last_area s h) ≡ false
  pub grains : runs_past (file_sectors s) (grain_areas s h) ≡ false

module _ (s : List ℕ) (h : Header) where
  pub groups_in : runs_past (file_sectors s) (areas s h) ≡ false → Inside s h
  unfolding areas
  groups_in e =
      let f = file_sectors s in
      let a = both_in f (header_area h) _ e in
      let b = both_in f (descriptor_area h) _ a.1 in
      let c = both_in f (directory_area h) _ b.1 in
      let d = both_in f (redundant_area h) _ c.1 in
      let g = both_in f (primary_tables s h) _ d.1 in
      let i = both_in f (redundant_tables s h) _ g.1 in
      let j = both_in f (footer_area s h) _ i.1 in
      let k = both_in f (last_area s h) _ j.1 in
      record {
        header = a.0;
        descriptor = b.0;
        directory = c.0;
        redundant = d.0;
        tables = g.0;
        copies = i.0;
        footer = j.0;
        last = k.0;
        grains = k.1;
      }

  pub in_groups : Inside s h → runs_past (file_sectors s) (areas s h) ≡ false
  unfolding areas
  in_groups r =
      let f = file_sectors s in
      in_both f _ _ r.header
      (in_both f _ _ r.descriptor
      (in_both f _ _ r.directory
      (in_both f _ _ r.redundant
      (in_both f _ _ r.tables (in_both f _ _ r.copies
      (in_both f _ _ r.footer (in_both f _ _ r.last r.grains)))))))
