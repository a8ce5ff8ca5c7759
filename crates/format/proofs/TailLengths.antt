-- The parts of a tail that closes a stream (request A12): how long each is.
use Prim.Native.Nat.{ℕ, zero, suc, ◌+◌, ◌*◌, ◌≤◌}
use mathlib.Core.Path.{◌≡◌, refl, ◌∙◌}
use mathlib.Core.List.{List, [], ◌∷◌, ◌++◌}
use mathlib.Core.Bool.{Bool, true, false}
use native.Mathlib.Omega.{arith}
use lib.ListN.{length, get_or, length-append}
use Rattle.base.specs.Pick.{pick}
use Rattle.base.specs.Numbers.{le_bytes}
use Rattle.base.specs.Bytes.{zeros}
use Rattle.base.specs.Rows.{rows, first_of, all_of, entry_bytes}
use Rattle.base.specs.SumsBelow.{sum_below}
use Rattle.base.proofs.Rows.{entries_length}
use Rattle.base.proofs.Numbers.{le_length}
use Rattle.base.proofs.Over.{zeros_length}
use Rattle.base.proofs.SumsBelow.{sum_most}
use Rattle.format.specs.Header.{directory_entries_of}
use Rattle.format.specs.Stream.{KeptGrain}
use Rattle.format.specs.Tail.{has_grains, one_if_table, tables_below, new_tables, new_directory, tail_sectors, marker_bytes}
use Rattle.format.specs.Tail.{new_entry, table_parts, new_directory_bytes, footer_bytes, tail_parts, tail_bytes}
use Rattle.format.specs.declared.Header.{Header}
use Rattle.format.proofs.BytesAt.{part_long}

-- ---- how long each is
pub marker_length : (first type : ℕ) → length (marker_bytes first type) ≡ 512
unfolding marker_bytes rows le_bytes zeros
marker_length first type = refl

-- a part that may be there
part_length : (there : Bool) (v : List ℕ) (n : ℕ) → length v ≡ n → length (pick there v []) ≡ n * pick there 1 0
unfolding pick
part_length true v n e = e ∙ omega arith
part_length false v n e = omega arith

-- parts one after the other
two_parts : (a b : List ℕ) → all_of (a ∷ b ∷ []) ≡ a ++ b
unfolding rows
two_parts a b = refl

three_long : (a b c : List ℕ) → length (all_of (a ∷ b ∷ c ∷ [])) ≡ length a + length b + length c
unfolding rows
three_long a b c = length-append (a ++ b) c ∙ rw (length-append a b)

pub one_more : (parts : List (List ℕ)) (i n : ℕ) → length (first_of parts i) ≡ n
    → length (first_of parts (suc i)) ≡ n + length (get_or parts i [])
unfolding rows
one_more parts i n e = rw (length-append, e)

module _ (l : List KeptGrain) where
  pub table_is : (d : ℕ) → table_parts l d ≡ pick (has_grains l d) (marker_bytes 4 1 ++ entry_bytes 512 (new_entry l d)) []
  unfolding table_parts
  table_is d = rw (two_parts (marker_bytes 4 1) (entry_bytes 512 (new_entry l d)))

  pub table_length : (d : ℕ) → length (table_parts l d) ≡ 2560 * one_if_table l d
  table_length d =
      rw (table_is d)
      (part_length (has_grains l d) _ 2560
      (rw (length-append, marker_length 4 1, entries_length 512 (new_entry l d))))

  pub tables_length : (n : ℕ) → length (rows n (table_parts l)) ≡ 2560 * tables_below l n
  unfolding rows sum_below
  tables_length zero = refl
  tables_length (suc n) = rw (length-append, tables_length n, table_length n) (omega arith)

-- there are no more tables than directory entries
one_most : (b : Bool) → pick b 1 0 ≤ 1
unfolding pick
one_most true = omega arith
one_most false = omega arith

pub tables_most : (l : List KeptGrain) (d : ℕ) → tables_below l d ≤ d
tables_most l d = sum_most d (one_if_table l) (λ k b. one_most (has_grains l k))

-- ---- the parts one after the other
module _ (s : List ℕ) (h : Header) (end : ℕ) (l : List KeptGrain) (long : 512 ≤ length s) where
  directory_length : length (new_directory_bytes h end l) ≡ 512 * h.directory_sectors
  unfolding new_directory_bytes
  directory_length = entries_length _ _ ∙ omega arith

  footer_length : (directory : ℕ) → length (footer_bytes s directory) ≡ 512
  unfolding footer_bytes
  footer_length directory =
      three_long _ _ _ ∙ rw (part_long s 0 56 (omega arith), le_length, part_long s 64 448 (omega arith))

  abbrev pub before : ℕ → ℕ
  before i = length (first_of (tail_parts s h end l) i)

  pub ends_1 : before 1 ≡ 512 * (5 * new_tables h l)
  unfolding rows
  ends_1 = tables_length l (directory_entries_of h) ∙ omega arith

  pub ends_2 : before 2 ≡ 512 * (5 * new_tables h l + 1)
  ends_2 = one_more (tail_parts s h end l) 1 _ ends_1 ∙ omega (arith, marker_length h.directory_sectors 2)

  pub ends_3 : before 3 ≡ 512 * (5 * new_tables h l + h.directory_sectors + 1)
  ends_3 = one_more (tail_parts s h end l) 2 _ ends_2 ∙ omega (arith, directory_length)

  pub ends_4 : before 4 ≡ 512 * (5 * new_tables h l + h.directory_sectors + 2)
  ends_4 = one_more (tail_parts s h end l) 3 _ ends_3 ∙ omega (arith, marker_length 0 3)

  pub ends_5 : before 5 ≡ 512 * (5 * new_tables h l + h.directory_sectors + 3)
  ends_5 = one_more (tail_parts s h end l) 4 _ ends_4 ∙ omega (arith, footer_length (new_directory h end l))

  pub tail_length_lem : length (tail_bytes s h end l) ≡ 512 * tail_sectors h l
  unfolding tail_bytes
  tail_length_lem = one_more (tail_parts s h end l) 5 _ ends_5 ∙ omega (arith, zeros_length 512)
