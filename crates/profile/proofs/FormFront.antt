-- Up to the first grain a layout goes by what is stored, not by its bytes: maps that tell the same entries have one front.
use Prim.Native.Nat.{ℕ, ◌*◌, ◌<◌}
use mathlib.Core.Path.{◌≡◌, refl, sym, ap, ◌∙◌}
use mathlib.Core.Logic.{⊎_elim}
use mathlib.Core.List.{List, [], ◌∷◌, ◌++◌}
use native.Mathlib.Omega.{arith}
use lib.ListN.{length, get_or, length-append, get_or-append}
use borrow.Author.Tests.{lt-ltb, le-ltb}
use Rattle.base.specs.Pick.{pick}
use Rattle.base.specs.Numbers.{le_bytes}
use Rattle.base.specs.Bytes.{SameBytes}
use Rattle.base.specs.Rows.{rows, all_of}
use Rattle.base.proofs.Steps.{lt_or_ge}
use Rattle.base.proofs.Rows.{rows_same}
use Rattle.format.specs.Geometry.{grains}
use Rattle.format.specs.Grains.{Map, grain_from, one_if_stored, entry_for}
use Rattle.format.specs.Layout.{tables_at, tables_end, sector_v, sector_of, sectors_laid, table_entry, header_bytes}
use Rattle.format.specs.Layout.{directory_bytes}
use Rattle.format.specs.Layout.{table_bytes, gap_bytes, grain_bytes, layout_as}
use Rattle.format.specs.declared.Kind.TheVariants.{Kdmv}
use Rattle.format.specs.declared.Entry.{Entry}
use Rattle.format.specs.declared.Entry.TheVariants.{Absent, Zero, Sector}
use Rattle.format.proofs.Lengths.{header_length, directory_length, tables_length, gap_length, grains_late}
use Rattle.laws.proofs.LayoutNumbers.{Sizes, some_size}
use Rattle.laws.proofs.UsedCollapse.{below_same}

-- ---- one entry, read in two images
module _ (s t : List ℕ) (c size g : ℕ) where
  pub stored_told : (d : Entry) → one_if_stored (grain_from s c size g d) ≡ one_if_stored (grain_from t c size g d)
  unfolding one_if_stored grain_from
  stored_told Absent = refl
  stored_told Zero = refl
  stored_told (Sector e) = refl

  pub entry_told_lem : (v : ℕ) (d : Entry) → entry_for (grain_from s c size g d) v ≡ entry_for (grain_from t c size g d) v
  unfolding entry_for grain_from
  entry_told_lem v Absent = refl
  entry_told_lem v Zero = refl
  entry_told_lem v (Sector e) = refl

-- ---- the parts before the grains
abbrev front : ℕ → ℕ → Map → List ℕ
front c size m =
    all_of
    (header_bytes Kdmv c size (sectors_laid Kdmv c size m)
    ∷ directory_bytes Kdmv c size
    ∷ table_bytes Kdmv c size m
    ∷ gap_bytes Kdmv c size
    ∷ [])

front_laid : (c size : ℕ) (m : Map) → layout_as Kdmv c size m ≡ front c size m ++ grain_bytes c size m
unfolding layout_as rows
front_laid c size m = refl

front_long : {c size : ℕ} → Sizes c size → (m : Map) → length (front c size m) ≡ 512 * sector_v Kdmv c size
unfolding rows tables_end tables_at
front_long {c} {size} z m =
    simp (length-append, header_length, directory_length, tables_length, gap_length)
    (omega (arith, grains_late Kdmv c size (some_size z)))

module _ {c size : ℕ} (z : Sizes c size) (m k : Map)
    (one : (g : ℕ) → g < grains c size → one_if_stored (m g) ≡ one_if_stored (k g))
    (told : (g : ℕ) → g < grains c size → (v : ℕ) → entry_for (m g) v ≡ entry_for (k g) v) where
  entry_same : (g : ℕ) → table_entry Kdmv c size m g ≡ table_entry Kdmv c size k g
  unfolding pick sector_of
  entry_same g =
      ⊎_elim (λ h. rw (lt-ltb g (grains c size) h, below_same m k g (λ i b. one i (omega arith))) (told g h _))
      (λ h. rw (le-ltb g (grains c size) h)) (lt_or_ge g (grains c size))

  tables_same : table_bytes Kdmv c size m ≡ table_bytes Kdmv c size k
  unfolding table_bytes
  tables_same = rows_same _ _ _ (λ g b. ap (le_bytes 4) (entry_same g))

  pub laid_same : sectors_laid Kdmv c size m ≡ sectors_laid Kdmv c size k
  unfolding sectors_laid
  laid_same = rw (below_same m k (grains c size) one)

  front_same : front c size m ≡ front c size k
  front_same = λ i. all_of
      (header_bytes Kdmv c size (laid_same i) ∷ directory_bytes Kdmv c size ∷ tables_same i ∷ gap_bytes Kdmv c size ∷ [])

  pub fronts_alike : SameBytes (layout_as Kdmv c size m) (layout_as Kdmv c size k) 0 (512 * sector_v Kdmv c size)
  fronts_alike i y l =
      ap (λ (w : List ℕ). get_or w i 0) (front_laid c size m)
      ∙ get_or-append (front c size m) _ 0 i (omega (arith, front_long z m))
      ∙ ap (λ (w : List ℕ). get_or w i 0) front_same
      ∙ sym (get_or-append (front c size k) _ 0 i (omega (arith, front_long z k)))
      ∙ sym (ap (λ (w : List ℕ). get_or w i 0) (front_laid c size k))
