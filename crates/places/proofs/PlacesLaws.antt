-- What judging 8 asks on its way, each premise as the code gives it.
use Prim.Native.Nat.{ℕ, ◌+◌}
use mathlib.Core.Path.{◌≡◌, refl, sym, ◌∙◌}
use mathlib.Core.List.{List}
use mathlib.Core.Bool.{Bool, false}
use lib.Dec.{ltb}
use borrow.Author.Tests.{eq-eqb, ne_eqb}
use Rattle.base.specs.Pick.{pick}
use Rattle.format.specs.Geometry.{file_sectors}
use Rattle.format.specs.Header.{directory_entries_of}
use Rattle.format.specs.Areas.{area, if_there, named, table_areas, redundant_tables, runs_past}
use Rattle.format.specs.Check.{redundant_directory_misplaced, redundant_tables_misplaced}
use Rattle.format.specs.declared.Header.{Header}
use Rattle.format.specs.declared.Entry.TheVariants.{Absent, Zero, Sector}
use Rattle.format.proofs.Inside.{past_one}
use Rattle.format.proofs.Places.{redundant_tables_lem}

-- ---- the area that an entry or a header names
module _ (f sectors : ℕ) where
  pub absent_past : false ≡ runs_past f (named (λ e. sectors) Absent)
  unfolding named runs_past
  absent_past = refl

  pub zero_past : false ≡ runs_past f (named (λ e. sectors) Zero)
  unfolding named runs_past
  zero_past = refl

  pub sector_past : {r : Bool} (t : ℕ) → r ≡ ltb f (t + sectors) → r ≡ runs_past f (named (λ e. sectors) (Sector t))
  unfolding named
  sector_past t e = e ∙ sym (past_one f (area t sectors))

-- ---- the redundant directory and its tables, where there is one and where not
module _ (h : Header) (none : h.redundant ≡ 0) where
  pub redundant_none : (f : ℕ) → false ≡ redundant_directory_misplaced f h
  unfolding if_there pick runs_past
  redundant_none f = rw (eq-eqb h.redundant 0 none)

  pub copies_none : (s : List ℕ) → false ≡ redundant_tables_misplaced s h
  unfolding redundant_tables pick runs_past
  copies_none s = rw (eq-eqb h.redundant 0 none)

module _ {r : Bool} (h : Header) (one : h.redundant ≡ 0 → ⊥) where
  pub redundant_one : (f g : ℕ) → g ≡ f → r ≡ ltb g (h.redundant + h.directory_sectors) → r
      ≡ redundant_directory_misplaced f h
  unfolding if_there pick
  redundant_one f g e q =
      rw (ne_eqb h.redundant 0 one, ← e) (q ∙ sym (past_one g (area h.redundant h.directory_sectors)))

  pub copies_one : (s : List ℕ) (n : ℕ) → n ≡ directory_entries_of h → r
      ≡ runs_past (file_sectors s) (table_areas s h.one_is_zero h.table_sectors h.redundant n) → r
      ≡ redundant_tables_misplaced s h
  copies_one s n e q = rw (redundant_tables_lem s h one, ← e) q
