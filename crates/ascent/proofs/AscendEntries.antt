-- What entries name, in ascending order: each premise as the code gives it.
use Prim.Native.Nat.{ℕ, ◌≤◌, ◌<◌}
use mathlib.Core.Path.{◌≡◌, refl, sym}
use mathlib.Core.List.{List, [], ◌∷◌, append-nil}
use mathlib.Core.Bool.{Bool, true, false}
use borrow.Author.Tests.{lt-ltb, le-ltb}
use Rattle.base.specs.Pick.{pick}
use Rattle.format.specs.Entries.{entry_at, grain_sectors}
use Rattle.format.specs.Areas.{Area, area}
use Rattle.named.specs.Named.{entry_area, entry_areas, table_grains}
use Rattle.named.proofs.Named.{no_area}
use Rattle.ascent.specs.Ascend.{stretched, ascend, table_row}
use Rattle.ascent.specs.declared.Stretch.{Stretch}
use Rattle.ascent.specs.Ascended.{ascend_append, ascend_none}
use Rattle.ascent.proofs.Ascending.{ascend_one}

-- ---- the grains of a directory entry, and its table
none_either : (b : Bool) → pick {A = List Area} b [] [] ≡ []
unfolding pick
none_either true = refl
none_either false = refl

module _ (s : List ℕ) (st : Stretch) (between : Bool) (sectors least : ℕ) (packed : Bool) (size directory d n t : ℕ)
    (eq : t ≡ entry_at s directory d) where
  pub no_table : t < least → st ≡ ascend st (table_row s between sectors least packed size directory d n)
  unfolding table_row table_grains pick
  no_table h =
      rw (no_area s least false sectors directory d (rw eq at h), ← eq, lt-ltb t least h, none_either) (sym (ascend_none st))

  module _ (reached : Stretch) (h : least ≤ t) (g : reached ≡ ascend st (entry_areas s least packed size t n)) where
    pub grains_alone : between ≡ false → reached ≡ ascend st (table_row s between sectors least packed size directory d n)
    unfolding table_row table_grains pick
    grains_alone b = rw (b, append-nil, ← eq, le-ltb t least h) g

    table_area : entry_area s least false sectors directory d ≡ area t sectors ∷ []
    unfolding entry_area grain_sectors pick
    table_area = rw (← eq, le-ltb t least h)

    pub then_table : (r : Stretch) → between ≡ true → r ≡ stretched reached (area t sectors)
        → r ≡ ascend st (table_row s between sectors least packed size directory d n)
    unfolding table_row table_grains pick
    then_table r b e = rw (b, table_area, ← eq, le-ltb t least h, ascend_append, ← g, ascend_one) e
