-- The areas of a frame counted, each premise as the code gives it.
use Prim.Native.Nat.{ℕ, ◌+◌, ◌-◌, ◌*◌, ◌≤◌}
use mathlib.Core.Path.{◌≡◌, refl}
use mathlib.Core.List.{List}
use mathlib.Core.Bool.{Bool, true, false, not, ◌&&◌}
use native.Mathlib.Omega.{arith}
use native.Mathlib.Numerals.{add-one}
use lib.Dec.{eqb}
use lib.ListN.{length, length-append}
use borrow.Author.Tests.{eq-eqb}
use mir.Val.{bool_byte}
use Rattle.base.specs.Pick.{pick}
use Rattle.base.specs.Rows.{rows}
use Rattle.format.specs.Geometry.{file_sectors}
use Rattle.format.specs.Header.{directory_entries_of}
use Rattle.format.specs.Entries.{meaning_at}
use Rattle.format.specs.Areas.{Area, area, if_there, named}
use Rattle.format.specs.Areas.{table_areas, primary_tables, redundant_tables}
use Rattle.format.specs.Frame.{frame_areas, frame_count}
use Rattle.format.specs.declared.Header.{Header}
use Rattle.format.specs.declared.Entry.{Entry}
use Rattle.format.specs.declared.Entry.TheVariants.{Absent, Zero, Sector}
use Rattle.format.proofs.Places.{redundant_tables_lem}

-- ---- one, or none
there_count : (b : Bool) (a : Area) → length (if_there b a) ≡ bool_byte b
unfolding if_there pick
there_count true a = refl
there_count false a = refl

pub one_most : (one : ℕ) (b : Bool) → one ≡ bool_byte b → one ≤ 1
one_most one true e = omega arith
one_most one false e = omega arith

none_named : (f : ℕ → ℕ) (entry : Entry) → ((t : ℕ) → entry ≡ Sector t → ⊥) → length (named f entry) ≡ 0
unfolding named
none_named f Absent not = refl
none_named f Zero not = refl
none_named f (Sector t) not = absurd (not t refl)

-- ---- the tables that the first d entries name
module _ (s : List ℕ) (b : Bool) (directory : ℕ) where
  pub tables_none : (sectors : ℕ) → 0 ≡ length (table_areas s b sectors directory 0)
  unfolding rows
  tables_none sectors = refl

  module _ (count d : ℕ) (w : (sectors : ℕ) → count ≡ length (table_areas s b sectors directory d)) (entry : Entry)
      (e : entry ≡ meaning_at s b directory d) where
    tables_with : (one : ℕ) → ((f : ℕ → ℕ) → length (named f entry) ≡ one)
        → (sectors : ℕ) → count + one ≡ length (table_areas s b sectors directory (d + 1))
    unfolding rows
    tables_with one q sectors =
        let here : length (named (λ t. sectors) (meaning_at s b directory d)) ≡ one = rw (← e) (q (λ t. sectors)) in
        rw add-one
        (omega (
          arith,
          w sectors,
          here,
          length-append (table_areas s b sectors directory d)
              (named (λ t. sectors) (meaning_at s b directory d)),
        ))

    pub tables_more : (t : ℕ) → entry ≡ Sector t
        → (sectors : ℕ) → count + 1 ≡ length (table_areas s b sectors directory (d + 1))
    unfolding named
    tables_more t q = tables_with 1 (λ f. rw q)

    pub tables_same : ((t : ℕ) → entry ≡ Sector t → ⊥)
        → (sectors : ℕ) → count ≡ length (table_areas s b sectors directory (d + 1))
    tables_same not = let none = tables_with 0 (λ f. none_named f entry not) in λ sectors. omega (arith, none sectors)

-- ---- an image's areas
module _ (s : List ℕ) (h : Header) where
  pub copies_none : h.redundant ≡ 0 → 0 ≡ length (redundant_tables s h)
  unfolding redundant_tables pick
  copies_none e = rw (eq-eqb h.redundant 0 e)

  module _ (n : ℕ) (e : n ≡ directory_entries_of h) where
    pub copies_some : (r : ℕ) → (h.redundant ≡ 0 → ⊥)
        → ((sectors : ℕ) → r ≡ length (table_areas s h.one_is_zero sectors h.redundant n))
        → r ≡ length (redundant_tables s h)
    copies_some r one w = rw (redundant_tables_lem s h one, ← e) (w h.table_sectors)

    pub areas_count : (x y t c z : ℕ) → x ≡ bool_byte (not (eqb h.descriptor 0) && not (eqb h.descriptor_sectors 0))
        → y ≡ bool_byte (not (eqb h.redundant 0))
        → ((sectors : ℕ) → t ≡ length (table_areas s h.one_is_zero sectors h.directory n))
        → c ≡ length (redundant_tables s h) → z ≡ bool_byte h.footer
        → 2 + x + y + t + c + 2 * z ≡ frame_count s h
    unfolding frame_areas
    areas_count x y t c z a b w d f =
        let primary : t ≡ length (primary_tables s h) = rw e at (w h.table_sectors) in
        simp length-append
        (omega (
          arith,
          a,
          b,
          primary,
          d,
          f,
          there_count (not (eqb h.descriptor 0) && not (eqb h.descriptor_sectors 0))
              (area h.descriptor h.descriptor_sectors),
          there_count (not (eqb h.redundant 0)) (area h.redundant h.directory_sectors),
          there_count h.footer (area (file_sectors s - 2) 1),
          there_count h.footer (area (file_sectors s - 1) 1),
        ))
