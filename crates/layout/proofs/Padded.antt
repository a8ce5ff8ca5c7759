-- Entries of which those past the ones in use are 0.
use Prim.Native.Nat.{ℕ, suc, ◌+◌, ◌*◌, ◌-◌, ◌≤◌}
use mathlib.Core.Path.{◌≡◌, refl, sym, ap, ◌∙◌}
use mathlib.Core.List.{List, ◌++◌, append_assoc, append-nil}
use native.Mathlib.Omega.{arith}
use native.Mathlib.Decide.{le_ind}
use lib.Dec.{ltb}
use lib.ListN.{length}
use borrow.Author.Tests.{lt-ltb, le-ltb}
use Rattle.base.specs.Pick.{pick}
use Rattle.base.specs.Numbers.{le_bytes}
use Rattle.base.specs.Bytes.{over, zeros}
use Rattle.base.specs.Rows.{rows, entry_bytes}
use Rattle.base.proofs.Over.{first, last, zeros_add}
use Rattle.base.proofs.Rows.{rows_same}
use Rattle.format.proofs.Picked.{pick_then, pick_else}
use Rattle.format.specs.Geometry.{directory_sectors}
use Rattle.format.specs.Layout.{head_sectors, sectors_per_table, table_count, tables_at, directory_bytes}
use Rattle.format.specs.declared.Kind.{Kind}
use Rattle.layout.proofs.PartSizes.{directory_fits}
use Rattle.layout.proofs.EntryRuns.{entries_long}

no_zeros : (d : List ℕ) (n : ℕ) → n ≡ 0 → d ≡ d ++ zeros n
unfolding zeros
no_zeros d n e = rw e (sym (append-nil d))

zero_entry_lem : le_bytes 4 0 ≡ zeros 4
unfolding le_bytes zeros
zero_entry_lem = refl

module _ (used : ℕ) (e : ℕ → ℕ) where
  abbrev padded : ℕ → ℕ
  padded k = pick (ltb k used) (e k) 0

  in_use : entry_bytes used padded ≡ entry_bytes used e
  in_use = rows_same used _ _ (λ k h. ap (le_bytes 4) (pick_then _ _ _ (lt-ltb k used h)))

  one_more : (n : ℕ) → used ≤ n → entry_bytes n padded ≡ entry_bytes used e ++ zeros (4 * (n - used))
      → entry_bytes (suc n) padded ≡ entry_bytes used e ++ zeros (4 * (suc n - used))
  unfolding rows
  one_more n h p =
      let z : le_bytes 4 (padded n) ≡ zeros 4 = ap (le_bytes 4) (pick_else _ _ _ (le-ltb n used h)) ∙ zero_entry_lem in
      let q : 4 * (n - used) + 4 ≡ 4 * (suc n - used) = omega arith in
      rw (p, z, append_assoc, zeros_add, q)

  pub entries_padded : (all : ℕ) → used ≤ all → entry_bytes all padded ≡ entry_bytes used e ++ zeros (4 * (all - used))
  entries_padded all h =
      le_ind (λ n. entry_bytes n padded ≡ entry_bytes used e ++ zeros (4 * (n - used))) (in_use ∙ no_zeros _ _ (omega arith))
      one_more all h

-- ---- the directory: the entries in use, and zeros up to the first table
module _ (kind : Kind) (c z : ℕ) where
  -- the byte where it begins
  abbrev from : ℕ
  from = 512 * head_sectors kind

  directory_is : directory_bytes kind c z
      ≡ entry_bytes (table_count kind c z) (λ d. tables_at kind c z + sectors_per_table kind * d)
      ++ zeros (512 * tables_at kind c z - (from + 4 * table_count kind c z))
  unfolding directory_bytes tables_at
  directory_is =
      let n = table_count kind c z in
      let l : n ≤ 128 * directory_sectors n = omega (arith, directory_fits kind c z) in
      let q : 4 * (128 * directory_sectors n - n) ≡ 512 * (head_sectors kind + directory_sectors n) - (from + 4 * n) =
      omega arith in
      entries_padded n (λ d. head_sectors kind + directory_sectors n + sectors_per_table kind * d) (128 * directory_sectors n) l
      ∙ rw q

  pub directory_join : (d x y : List ℕ) (b k n t : ℕ) → y ≡ over x (512 * b + 4 * n) (zeros (512 * t - (512 * b + 4 * n)))
      → x ≡ over d (512 * b) (entry_bytes n (λ i. t + k * i))
      → b ≡ head_sectors kind → k ≡ sectors_per_table kind → n ≡ table_count kind c z → t ≡ tables_at kind c z
      → 512 * b ≤ length d → y ≡ over d from (directory_bytes kind c z)
  directory_join d x y b k n t q p e f i j h =
      last _ _ _ _ _ _ _ q (first _ _ _ _ (512 * b + 4 * n) p h (ap (λ (o : ℕ). 512 * b + o) (entries_long _ n)))
      ∙ rw (e, f, i, j, directory_is)
