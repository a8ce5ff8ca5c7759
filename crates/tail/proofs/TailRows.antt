-- Directory entries and tables, written in one loop.
use Prim.Native.Nat.{ℕ, zero, suc, ◌+◌, ◌-◌, ◌*◌, ◌≤◌, ◌<◌}
use mathlib.Core.Path.{◌≡◌, refl, sym, ap, ◌∙◌}
use mathlib.Core.List.{List, []}
use mathlib.Core.Bool.{Bool, true, false}
use native.Mathlib.Omega.{arith}
use native.Mathlib.Numerals.{add-one}
use lib.ListN.{length, length-append}
use Rattle.std.specs.Prelude.{Option}
use Rattle.base.specs.Pick.{pick}
use Rattle.base.specs.Numbers.{le_bytes}
use Rattle.base.specs.Bytes.{over}
use Rattle.base.specs.Rows.{rows, entry_bytes}
use Rattle.base.specs.SumsBelow.{sum_below}
use Rattle.base.proofs.Over.{over_none, over_length}
use Rattle.base.proofs.OverApart.{over_swap}
use Rattle.base.proofs.Rows.{entries_length}
use Rattle.base.proofs.SumsBelow.{sum_split}
use Rattle.format.specs.Header.{directory_entries_of}
use Rattle.format.specs.Stream.{KeptGrain, kept_grains}
use Rattle.format.specs.Tail.{has_grains, one_if_table, tables_below, new_tables, new_entry, table_parts}
use Rattle.format.specs.Tail.{new_directory_entry}
use Rattle.format.specs.declared.Header.{Header}
use Rattle.layout.proofs.EntryRuns.{rows_none, rows_more, entries_more, entries_long}
use Rattle.walk.specs.Walked.{next_in}
use Rattle.walk.specs.declared.NextGrain.{NextGrain}
use Rattle.tail.specs.TailPut.{Walking, Left, table_of, RowReady, RowPut, with_rows}
use Rattle.tail.specs.declared.Rows.{Rows}
use Rattle.tail.proofs.TailBytes.{marker_length}
use Rattle.tail.proofs.TailLeft.{has_next, left_later}

-- ---- sizes
table_length : (l : List KeptGrain) (d : ℕ) → length (table_of l d) ≡ 2560
unfolding rows
table_length l d = rw length-append (omega (arith, marker_length 4 1, entries_length 512 (new_entry l d)))

pub parts_length : (l : List KeptGrain) (d : ℕ) → length (table_parts l d) ≡ 2560 * one_if_table l d
unfolding table_parts pick
parts_length l d = go (has_grains l d)
  where
    go : (b : Bool) → length (pick b (table_of l d) []) ≡ 2560 * pick b 1 0
    go true = table_length l d
    go false = refl

pub tables_length : (l : List KeptGrain) (n : ℕ) → length (rows n (table_parts l)) ≡ 2560 * tables_below l n
unfolding rows sum_below
tables_length l zero = refl
tables_length l (suc n) = rw length-append (omega (arith, tables_length l n, parts_length l n))

-- a table more is within all
pub tables_within : (l : List KeptGrain) (d n : ℕ) → d < n → tables_below l d + one_if_table l d ≤ tables_below l n
unfolding sum_below
tables_within l d n b =
    let e : suc d + (n - suc d) ≡ n = omega arith in
    let q = rw e at (sum_split (suc d) (n - suc d) (one_if_table l)) in
    omega (arith, q)

-- ---- one row
module _ (s : List ℕ) (h : Header) (end directory tables d room : ℕ) (next : Option NextGrain)
    (ready : RowReady s h directory tables d room next) (b : Bool) (is : b ≡ next_in next d) where
  has : has_grains (kept_grains s h) d ≡ b
  has = has_next s h ready.walking d next ready.left ∙ sym is

  pub table_fits : b ≡ true → 2560 * tables + 2560 ≤ directory
  unfolding pick
  table_fits e = omega (arith, rw (has, e) at ready.fits)

  pub row_yes : (x y before : List ℕ) (r : Option NextGrain) → b ≡ true
      → x ≡ over before (2560 * tables) (table_of (kept_grains s h) d) → Left s h (512 * d + 512) r
      → y ≡ over x (directory + 4 * d) (le_bytes 4 (end + 5 * tables + 1))
      → RowPut s h end directory tables d (record { tables = tables + 1; next = r }) before y
  unfolding table_parts pick
  row_yes x y before r e p l q = record {
    left = l;
    counted = rw (has, e);
    bytes = q ∙ rw (has, e, p, ← ready.below);
  }

  pub row_no : (y before : List ℕ) (r : Rows) → b ≡ false → y ≡ over before (directory + 4 * d) (le_bytes 4 0)
      → r ≡ record { tables = tables; next = next } → RowPut s h end directory tables d r before y
  unfolding table_parts pick
  row_no y before r e q z =
      rw z
      (record {
        left = left_later s h ready.walking d next ready.left (sym is ∙ e);
        counted = rw (has, e) (omega arith);
        bytes = q ∙ rw (has, e, ← over_none before (2560 * tables));
      })

-- ---- the loop: after d directory entries
pub record Done (s : List ℕ) (h : Header) (end directory : ℕ) (before : List ℕ) (d : ℕ) (out : List ℕ) (tables : ℕ)
    (next : Option NextGrain) : Type 0 where
  pub left : Left s h (512 * d) next
  pub below : tables ≡ tables_below (kept_grains s h) d
  pub same : length out ≡ length before
  pub bytes : out ≡ with_rows (kept_grains s h) end directory d before

module _ (s : List ℕ) (h : Header) (w : Walking s h) (end directory n : ℕ) (before : List ℕ)
    (is : n ≡ directory_entries_of h) (few : n ≤ 0x80000000)
    (fits : 2560 * new_tables h (kept_grains s h) ≤ directory) (room : directory + 4 * n ≤ length before) where
  abbrev l : List KeptGrain
  l = kept_grains s h

  pub done_none : (next : Option NextGrain) → Left s h 0 next → Done s h end directory before 0 before 0 next
  unfolding sum_below
  done_none next a = record {
    left = a;
    below = refl;
    same = refl;
    bytes = rows_none _ before 0 ∙ rows_none _ _ directory;
  }

  module _ (d : ℕ) (b : d < n) (xs : List ℕ) (tables : ℕ) (next : Option NextGrain)
      (k : Done s h end directory before d xs tables next) where
    within : 2560 * (tables_below l d + one_if_table l d) ≤ directory
    within = omega (arith, rw (← is) at fits, tables_within l d n b)

    pub row_ready : RowReady s h directory tables d (length xs) next
    row_ready = record {
      walking = w;
      left = k.left;
      below = k.below;
      fits = rw k.below within;
      space = omega (arith, k.same);
      few = omega arith;
    }

    module _ (r : Rows) (ys : List ℕ) (p : RowPut s h end directory tables d r xs ys) where
      abbrev D : ℕ → List ℕ
      D i = over before 0 (rows i (table_parts l))

      abbrev E : ℕ → List ℕ
      E i = entry_bytes i (new_directory_entry end l)

      D_length : (i : ℕ) → 2560 * tables_below l i ≤ directory → length (D i) ≡ length before
      D_length i f = over_length before 0 (rows i (table_parts l)) (omega (arith, tables_length l i, room))

      D_more : over (D d) (2560 * tables) (table_parts l d) ≡ D (d + 1)
      D_more =
          rows_more (table_parts l) before (D d) _ 0 (2560 * tables) d refl refl
          (omega (arith, tables_length l d, k.below)) (omega arith)

      under : over xs (2560 * tables) (table_parts l d) ≡ over (D (d + 1)) directory (E d)
      under =
          rw k.bytes
          (over_swap (D d) (table_parts l d) (E d) (2560 * tables) directory
          (omega (arith, parts_length l d, k.below, within))
          (omega (arith, D_length d (omega (arith, within)), entries_long (new_directory_entry end l) d, room)))
          ∙ ap (λ (y : List ℕ). over y directory (E d)) D_more

      more_within : 2560 * tables_below l (d + 1) ≤ directory
      unfolding sum_below
      more_within = rw add-one within

      pub done_more : Done s h end directory before (d + 1) ys r.tables r.next
      unfolding sum_below
      done_more =
          let bytes = entries_more (new_directory_entry end l) (D (d + 1)) _ ys directory d _ p.bytes refl under
          (omega (arith, D_length (d + 1) more_within, room)) in
          record {
            left = let e : 512 * d + 512 ≡ 512 * (d + 1) = omega arith in rw e at p.left;
            below = p.counted ∙ rw (k.below, add-one);
            same =
                ap length bytes
                ∙ over_length (D (d + 1)) directory (E (d + 1))
                (omega (arith, D_length (d + 1) more_within, entries_long (new_directory_entry end l) (d + 1), room))
                ∙ D_length (d + 1) more_within;
            bytes = bytes;
          }

  pub done_all : (d : ℕ) (xs : List ℕ) (tables : ℕ) (next : Option NextGrain) → Done s h end directory before d xs tables next
      → d ≡ n → xs ≡ with_rows l end directory n before
  done_all d xs tables next k q = rw q at k.bytes
