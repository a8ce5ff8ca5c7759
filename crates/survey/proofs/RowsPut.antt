-- The rows of images put one after the other: each premise as the loop gives it.
use Prim.Native.Nat.{ℕ, ◌+◌, ◌*◌, ◌≤◌, ◌<◌}
use mathlib.Core.Path.{◌≡◌, refl, ◌∙◌}
use mathlib.Core.List.{List}
use native.Mathlib.Omega.{arith}
use native.Mathlib.Numerals.{add-one}
use lib.ListN.{length, length-append}
use Rattle.base.specs.Bytes.{over}
use Rattle.base.specs.Rows.{rows}
use Rattle.base.proofs.Over.{over_none}
use Rattle.base.proofs.Rows.{rows_length}
use Rattle.format.specs.Survey.{row_at, row_words, rows_below, add_row, totals_below}
use Rattle.format.specs.declared.Row.{Row}
use Rattle.format.specs.declared.Totals.{Totals}
use Rattle.framing.specs.WordsPut.{WordsPut}
use Rattle.framing.proofs.WordsLaws.{put_more, put_length}
use Rattle.survey.specs.Small.{SmallTotals}

pub row_long : (r : Row) → length (row_words r) ≡ 6
unfolding row_words
row_long r = refl

module _ (s l : List ℕ) where
  pub rows_long : (n : ℕ) → length (rows_below s l n) ≡ n * 6
  rows_long n = rows_length n 6 _ (λ k b. row_long (row_at s l k))

  pub rows_none : (d : List ℕ) → d ≡ over d 0 (rows_below s l 0)
  unfolding rows
  rows_none d = over_none d 0

  pub totals_none : record { stored = 0; zero = 0; absent = 0; packed = 0 } ≡ totals_below s l 0
  unfolding totals_below
  totals_none = refl

  pub totals_more : (k : ℕ) (t r : Totals) (row : Row) → t ≡ totals_below s l k → row ≡ row_at s l k → r ≡ add_row t row
      → r ≡ totals_below s l (k + 1)
  unfolding totals_below
  totals_more k t r row e o p = rw add-one (p ∙ rw (e, o))

  module _ (d x : List ℕ) (k n : ℕ) (w : x ≡ over d 0 (rows_below s l k)) (room : 6 * n ≤ length d) (b : k < n)
      (row : Row) (o : row ≡ row_at s l k) where
    here : 0 + length (rows_below s l k) ≤ length d
    here = omega (arith, rows_long k)

    row_here : WordsPut (rows_below s l k) d 0 x (6 * k)
    row_here = record { words = w; next = omega (arith, rows_long k) }

    pub row_room : 6 * k + length (row_words row) ≤ length x
    row_room = omega (arith, row_long row, put_length here row_here)

    pub rows_more : (y : List ℕ) → y ≡ over x (6 * k) (row_words row) → y ≡ over d 0 (rows_below s l (k + 1))
    unfolding rows
    rows_more y q =
        let p : WordsPut (row_words row) x (6 * k) y (6 * k + length (row_words row)) = record { words = q; next = refl } in
        let r =
        put_more (omega (
          arith,
          length-append (rows_below s l k) (row_words (row_at s l k)),
          rows_long k,
          row_long (row_at s l k),
        ))
        row_here (rw o at p) in
        rw (add-one) r.words

pub small_none : SmallTotals 0 (record { stored = 0; zero = 0; absent = 0; packed = 0 })
small_none = record { stored_few = omega arith; zero_few = omega arith; absent_few = omega arith; packed_few = omega arith }
