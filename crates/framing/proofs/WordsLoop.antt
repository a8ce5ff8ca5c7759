-- Rows of areas put one after the other: each premise as the loop gives it.
use Prim.Native.Nat.{ℕ, zero, suc, ◌+◌, ◌≤◌, ◌<◌}
use mathlib.Core.Path.{◌≡◌, refl}
use mathlib.Core.Logic.{⊎_elim}
use mathlib.Core.List.{List, ◌++◌}
use native.Mathlib.Omega.{arith}
use Rattle.base.proofs.Steps.{lt_or_ge}
use native.Mathlib.Numerals.{add-one}
use lib.ListN.{length, length-append}
use Rattle.base.specs.Rows.{rows}
use Rattle.format.specs.Areas.{Area}
use Rattle.format.specs.Frame.{told}
use Rattle.framing.specs.WordsPut.{WordsPut}
use Rattle.framing.proofs.WordsLaws.{put_more, put_length, put_nothing, told_append, told_long}

rows_long : (p : ℕ → List Area) (m n : ℕ) → m ≤ n → length (rows m p) ≤ length (rows n p)
unfolding rows
rows_long p m zero h = let e : m ≡ 0 = omega arith in rw e (omega arith)
rows_long p m (suc n) h =
    ⊎_elim (λ l. omega (arith, rows_long p m n (omega arith), length-append (rows n p) (p n)))
    (λ g. let e : m ≡ suc n = omega arith in rw e (omega arith)) (lt_or_ge m (suc n))

module _ (group at : ℕ) (p : ℕ → List Area) (d : List ℕ) where
  pub rows_start : WordsPut (told group (rows 0 p)) d at d at
  unfolding rows
  rows_start = put_nothing group at _ d refl

  module _ {x : List ℕ} {next : ℕ} (n k : ℕ) (room : at + length (told group (rows n p)) ≤ length d)
      (w : WordsPut (told group (rows k p)) d at x next) (l : k < n) where
    up : at + length (told group (rows k p ++ p k)) ≤ length d
    unfolding rows
    up =
        let most : length (rows (suc k) p) ≤ length (rows n p) = rows_long p (suc k) n (omega arith) in
        omega (arith, told_long group (rows n p), told_long group (rows k p ++ p k))

    pub row_room : next + length (told group (p k)) ≤ length x
    row_room =
        let long = length-append (told group (rows k p)) (told group (p k)) in
        let here = rw (told_append group (rows k p) (p k), long) at up in
        omega (arith, w.next, put_length (omega arith) w)

    pub rows_more : {y : List ℕ} {r : ℕ} → WordsPut (told group (p k)) x next y r
        → WordsPut (told group (rows (k + 1) p)) d at y r
    unfolding rows
    rows_more q =
        let apart = told_append group (rows k p) (p k) in rw (add-one, apart) (put_more (rw apart at up) w q)

  pub rows_all : {x : List ℕ} {next : ℕ} (n k : ℕ) → WordsPut (told group (rows k p)) d at x next → k ≤ n → n ≤ k
      → WordsPut (told group (rows n p)) d at x next
  rows_all n k w h g = let e : n ≡ k = omega arith in rw e w
