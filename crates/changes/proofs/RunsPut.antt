-- Rows of words put one after the other, one or several at a time: each premise as a loop gives it.
use Prim.Native.Nat.{ℕ, ◌+◌, ◌-◌, ◌≤◌, ◌<◌}
use mathlib.Core.Path.{◌≡◌, ◌∙◌}
use mathlib.Core.List.{List, [], ◌++◌, append-nil}
use native.Mathlib.Omega.{arith}
use lib.ListN.{length, length-append}
use Rattle.base.specs.Rows.{rows}
use Rattle.base.proofs.Rows.{rows_split, row_alone, rows_none}
use Rattle.framing.specs.WordsPut.{WordsPut}
use Rattle.framing.proofs.WordsLaws.{put_none, put_more, room_right}

module _ (at : ℕ) (f : ℕ → List ℕ) (d : List ℕ) where
  pub run_start : WordsPut (rows 0 f) d at d at
  unfolding rows
  run_start = put_none d at

  module _ {x : List ℕ} {next : ℕ} (n k : ℕ) (room : at + length (rows n f) ≤ length d) (w : WordsPut (rows k f) d at x next)
    where
      -- m rows
      module _ (m : ℕ) (l : k + m ≤ n) where
        up : at + length (rows k f ++ rows m (λ j. f (k + j))) ≤ length d
        up =
            let q : n ≡ k + m + (n - (k + m)) = omega arith in
            let all = rw (q, rows_split (k + m) (n - (k + m)) f, length-append, rows_split k m f) at room in
            omega (arith, all)

        pub run_room : next + length (rows m (λ j. f (k + j))) ≤ length x
        run_room = room_right (rows k f) (rows m (λ j. f (k + j))) d at up w

        pub run_more : {y : List ℕ} {r : ℕ} → WordsPut (rows m (λ j. f (k + j))) x next y r
            → WordsPut (rows (k + m) f) d at y r
        run_more q = rw (rows_split k m f) (put_more up w q)

      -- one row
      module _ (l : k < n) where
        pub row_room : next + length (f k) ≤ length x
        row_room = rw (row_alone f k) at (run_room 1 (omega arith))

        pub row_more : {y : List ℕ} {r : ℕ} → WordsPut (f k) x next y r → WordsPut (rows (k + 1) f) d at y r
        row_more q = run_more 1 (omega arith) (rw (row_alone f k) q)

  -- rows with nothing in them are passed over
  pub run_passed : {x : List ℕ} {next : ℕ} (k j : ℕ) → WordsPut (rows k f) d at x next → k ≤ j
      → ((i : ℕ) → k ≤ i → i < j → f i ≡ []) → WordsPut (rows j f) d at x next
  run_passed k j w l none =
      let q : j ≡ k + (j - k) = omega arith in
      let empty : rows (j - k) (λ i. f (k + i)) ≡ [] = rows_none (j - k) _ (λ i b. none (k + i) (omega arith) (omega arith)) in
      let same : rows j f ≡ rows k f = rw q (rows_split k (j - k) f ∙ rw (empty) (append-nil (rows k f))) in
      rw same w

  pub run_all : {x : List ℕ} {next : ℕ} (n k : ℕ) → WordsPut (rows k f) d at x next → k ≤ n → n ≤ k
      → WordsPut (rows n f) d at x next
  run_all n k w h g = let e : n ≡ k = omega arith in rw e w
