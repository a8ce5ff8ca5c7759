-- The parts of the tail that closes a stream (request A12): where each stands in an image that has the tail from sector `end`
-- on.
use Prim.Native.Nat.{ℕ, ◌+◌, ◌*◌, ◌≤◌, ◌<◌}
use mathlib.Core.Path.{◌≡◌, refl, ◌∙◌}
use mathlib.Core.List.{List, [], ◌++◌}
use mathlib.Core.Bool.{true}
use native.Mathlib.Omega.{arith}
use lib.ListN.{length, get_or}
use Rattle.base.specs.Bytes.{zeros}
use Rattle.base.specs.Rows.{rows, entry_bytes}
use Rattle.base.proofs.Stands.{Stands, stands_whole, stands_left, stands_right, stands_in, stands_at}
use Rattle.base.proofs.Rows.{rows_at, part_at}
use Rattle.format.specs.Header.{directory_entries_of}
use Rattle.format.specs.Stream.{KeptGrain}
use Rattle.format.specs.Tail.{has_grains, tables_below, new_table, new_tables, new_directory, marker_bytes}
use Rattle.format.specs.Tail.{new_entry, table_parts, new_directory_bytes, footer_bytes, tail_parts, tail_bytes}
use Rattle.format.specs.declared.Header.{Header}
use Rattle.format.proofs.TailLengths.{marker_length, table_is, tables_length, before, ends_1, ends_2, ends_3, ends_4, ends_5}
use Rattle.format.proofs.Picked.{pick_then}

-- a table behind its marker
module _ {c : List ℕ} {at : ℕ} (l : List KeptGrain) (d : ℕ) (there : has_grains l d ≡ true)
    (t : Stands c at (table_parts l d)) where
  both_stand : Stands c at (marker_bytes 4 1 ++ entry_bytes 512 (new_entry l d))
  both_stand = rw (table_is l d ∙ pick_then (has_grains l d) _ _ there) at t

  marker_first_lem : Stands c at (marker_bytes 4 1)
  marker_first_lem =
      stands_at _ (omega arith)
      (stands_in both_stand (stands_left (marker_bytes 4 1) (entry_bytes 512 (new_entry l d))
      (stands_whole (marker_bytes 4 1))))

  entries_then : Stands c (at + 512) (entry_bytes 512 (new_entry l d))
  entries_then =
      stands_in both_stand
      (stands_at 512 (marker_length 4 1) (stands_right (marker_bytes 4 1) (entry_bytes 512 (new_entry l d))))

-- ---- where each stands
module _ (s : List ℕ) (h : Header) (end : ℕ) (l : List KeptGrain) (long : 512 ≤ length s) where
  module _ {c : List ℕ} (t : Stands c (512 * end) (tail_bytes s h end l)) where
    part_stands : (i n : ℕ) → i < 6 → before s h end l long i ≡ 512 * n
        → Stands c (512 * (end + n)) (get_or (tail_parts s h end l) i [])
    unfolding tail_bytes
    part_stands i n b e =
        stands_at _ (omega (arith, e)) (stands_in t (part_at (tail_parts s h end l) i b))

    -- the table of directory entry d and its marker
    module _ (d : ℕ) (low : d < directory_entries_of h) (there : has_grains l d ≡ true) where
      row_stands : Stands c (512 * (end + 5 * tables_below l d)) (table_parts l d)
      unfolding rows
      row_stands =
          stands_at _ (omega (arith, tables_length l d))
          (stands_in (part_stands 0 0 (omega arith) refl) (rows_at (directory_entries_of h) (table_parts l) d low))

      pub marker_stands : Stands c (512 * (end + 5 * tables_below l d)) (marker_bytes 4 1)
      marker_stands = marker_first_lem l d there row_stands

      pub table_stands : Stands c (512 * new_table end l d) (entry_bytes 512 (new_entry l d))
      table_stands = stands_at _ (omega arith) (entries_then l d there row_stands)

    pub directory_marker : Stands c (512 * (end + 5 * new_tables h l)) (marker_bytes h.directory_sectors 2)
    directory_marker = part_stands 1 _ (omega arith) (ends_1 s h end l long)

    pub directory_stands : Stands c (512 * new_directory h end l) (new_directory_bytes h end l)
    directory_stands = stands_at _ (omega arith) (part_stands 2 _ (omega arith) (ends_2 s h end l long))

    pub footer_marker : Stands c (512 * (new_directory h end l + h.directory_sectors)) (marker_bytes 0 3)
    footer_marker = stands_at _ (omega arith) (part_stands 3 _ (omega arith) (ends_3 s h end l long))

    pub footer_stands : Stands c (512 * (new_directory h end l + h.directory_sectors + 1))
        (footer_bytes s (new_directory h end l))
    footer_stands = stands_at _ (omega arith) (part_stands 4 _ (omega arith) (ends_4 s h end l long))

    pub last_stands : Stands c (512 * (new_directory h end l + h.directory_sectors + 2)) (zeros 512)
    last_stands = stands_at _ (omega arith) (part_stands 5 _ (omega arith) (ends_5 s h end l long))
