-- Grain maps merged, and that a layout goes by the grains that there are.
use Prim.Native.Nat.{ℕ}
use mathlib.Core.Path.{◌≡◌, refl, ap, fun_ext}
use mathlib.Core.Logic.{⊎_elim}
use mathlib.Core.List.{[], ◌∷◌}
use native.Mathlib.Omega.{arith}
use borrow.Author.Tests.{lt-ltb, le-ltb}
use Rattle.base.specs.Pick.{pick}
use Rattle.base.specs.Numbers.{le_bytes}
use Rattle.base.specs.Rows.{all_of}
use Rattle.base.proofs.Steps.{lt_or_ge}
use Rattle.base.proofs.Rows.{rows_same}
use Rattle.format.specs.Geometry.{grains}
use Rattle.format.specs.Grains.{Grain, absent, zeroed, stored, Map, upper_unless_absent, merge, all_absent, bytes_of}
use Rattle.format.specs.Layout.{sector_of, sectors_laid, table_entry, header_bytes, directory_bytes, table_bytes, gap_bytes}
use Rattle.format.specs.Layout.{grain_bytes, layout_as}
use Rattle.format.specs.declared.Kind.{Kind}
use Rattle.format.proofs.Grains.{stored_same}
use Rattle.laws.specs.Layers.{SameGrains}

-- ---- a grain over another
pub onto_assoc : (a b d : Grain) → upper_unless_absent (upper_unless_absent a b) d ≡ upper_unless_absent a
    (upper_unless_absent b d)
unfolding upper_unless_absent
onto_assoc a b absent = refl
onto_assoc a b zeroed = refl
onto_assoc a b (stored s) = refl

pub onto_nothing : (a : Grain) → upper_unless_absent absent a ≡ a
unfolding upper_unless_absent
onto_nothing absent = refl
onto_nothing zeroed = refl
onto_nothing (stored s) = refl

pub nothing_onto : (a : Grain) → upper_unless_absent a absent ≡ a
unfolding upper_unless_absent
nothing_onto a = refl

pub merge_assoc : (a b d : Map) → merge (merge a b) d ≡ merge a (merge b d)
merge_assoc a b d = fun_ext (λ g. onto_assoc (a g) (b g) (d g))

pub merge_nothing : (a : Map) → merge all_absent a ≡ a
merge_nothing a = fun_ext (λ g. onto_nothing (a g))

-- ---- maps that agree on the grains that there are have one layout
module _ (kind : Kind) (c size : ℕ) (m k : Map) (e : SameGrains c size m k) where
  entry_same : (g : ℕ) → table_entry kind c size m g ≡ table_entry kind c size k g
  unfolding pick sector_of
  entry_same g =
      ⊎_elim (λ h. rw (lt-ltb g (grains c size) h, e g h, stored_same m k g (λ i b. e i (omega arith))))
      (λ h. rw (le-ltb g (grains c size) h)) (lt_or_ge g (grains c size))

  tables_same : table_bytes kind c size m ≡ table_bytes kind c size k
  unfolding table_bytes
  tables_same = rows_same _ _ _ (λ g b. ap (le_bytes 4) (entry_same g))

  grains_same : grain_bytes c size m ≡ grain_bytes c size k
  unfolding grain_bytes
  grains_same = rows_same _ _ _ (λ g b. ap bytes_of (e g b))

  sectors_same : sectors_laid kind c size m ≡ sectors_laid kind c size k
  unfolding sectors_laid
  sectors_same = rw (stored_same m k (grains c size) e)

  pub layout_same : layout_as kind c size m ≡ layout_as kind c size k
  unfolding layout_as
  layout_same = λ i. all_of
      (header_bytes kind c size (sectors_same i)
      ∷ directory_bytes kind c size
      ∷ tables_same i
      ∷ gap_bytes kind c size
      ∷ grains_same i
      ∷ [])
