-- Rows counted by their number, and the tally written word by word.
use Prim.Native.Nat.{ℕ, ◌+◌, ◌≤◌, ◌<◌}
use mathlib.Core.Path.{◌≡◌, refl}
use mathlib.Core.List.{List}
use native.Mathlib.Omega.{arith}
use native.Mathlib.Nat.{zero-add}
use native.Mathlib.Numerals.{add-one}
use mathlib.Core.Bool.{Bool, true, false}
use lib.Dec.{eqb}
use mir.Val.{bool_byte}
use lib.ListN.{length, set}
use Rattle.base.specs.Pick.{pick}
use Rattle.base.specs.Bytes.{over}
use Rattle.base.specs.Rows.{rows, tabulate}
use Rattle.base.proofs.Over.{over_none, store_more}
use Rattle.base.proofs.Rows.{tabulate_length}
use Rattle.format.specs.Survey.{count_of}

one_if : (b : Bool) → bool_byte b ≡ pick b 1 0
unfolding pick
one_if true = refl
one_if false = refl

pub one_most : (one : ℕ) (b : Bool) → one ≡ bool_byte b → one ≤ 1
one_most one true e = omega arith
one_most one false e = omega arith

module _ (f : ℕ → ℕ) (v : ℕ) where
  pub count_none : 0 ≡ count_of f v 0
  unfolding count_of
  count_none = refl

  module _ (k c : ℕ) (e : c ≡ count_of f v k) where
    pub count_more : (one : ℕ) → one ≡ bool_byte (eqb (f k) v) → c + one ≡ count_of f v (k + 1)
    unfolding count_of
    count_more one o = rw (add-one, e, o, one_if (eqb (f k) v))

module _ (f : ℕ → ℕ) (d : List ℕ) where
  pub tally_none : d ≡ over d 0 (tabulate 0 f)
  unfolding rows
  tally_none = over_none d 0

  module _ (out : List ℕ) (i : ℕ) (e : out ≡ over d 0 (tabulate i f)) where
    pub tally_more : (v : ℕ) → v ≡ f i → i < length d → set out i v ≡ over d 0 (tabulate (i + 1) f)
    unfolding rows
    tally_more v o l =
        rw (add-one, ← o)
        (rw zero-add at (store_more d out 0 i (tabulate i f) v e (tabulate_length i f) (omega arith)))
