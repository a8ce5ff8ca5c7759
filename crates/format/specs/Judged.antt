-- What is known of an image once refusals were judged and none was given: what a later function asks of its caller. These
-- records say nothing of their own on the format; each is named by the last refusal that it stands for.
use Rattle.std.specs.Prelude.{ℕ, ◌*◌, ◌≤◌, ◌≡◌, List, false}
use Rattle.format.specs.Header.{directory_entries_of, judge_of, judge}
use Rattle.format.specs.Areas.{areas, meet}
use Rattle.format.specs.Check.{misplaced, lowest_past, lowest_bad_marker, copies_differ, check_apart, check_of}
use Rattle.format.specs.Mend.{from_good}
use Rattle.format.specs.declared.Taken.{Taken}
use Rattle.format.specs.declared.Header.{Header}
use Rattle.format.specs.declared.Side.{Side}
use Rattle.std.specs.Prelude.{Ok, None}

-- 6, of the sizes alone: nothing that is computed from them can wrap
pub record Sized (capacity grain_size : ℕ) : Type 0 where
  pub low : 1 ≤ grain_size
  pub high : grain_size ≤ 2048
  pub small : capacity ≤ 0x80000000

-- 1 to 7: a judged header, whose directory and tables have room for the entries in use
pub record Sound (h : Header) : Type 0 where
  pub sizes : Sized h.capacity h.grain_size
  pub some : 1 ≤ h.entries_per_table
  pub few : h.entries_per_table ≤ 4096
  pub table : 4 * h.entries_per_table ≤ 512 * h.table_sectors
  pub short : h.table_sectors ≤ 32
  pub directory : 4 * directory_entries_of h ≤ 512 * h.directory_sectors

-- 1 to 8: directories and tables lie in the file
pub record Placed (s : List ℕ) (h : Header) : Type 0 where
  pub sound : Sound h
  pub kept : misplaced s h ≡ false

-- 1 to 8 of an image with two directories, where g is its header as read from one side
pub record Sided (s : List ℕ) (g : Header) : Type 0 where
  pub side : Side
  pub header : Header
  pub judged : judge s ≡ Ok header
  pub kept : misplaced s header ≡ false
  pub two : header.redundant ≡ 0 → ⊥
  pub is : g ≡ from_good side header

-- 1 to 9: and so do the grains
pub record Filed (s : List ℕ) (h : Header) : Type 0 where
  pub placed : Placed s h
  pub none : lowest_past s h ≡ None

-- 1 to 11: nothing but 12 is left of the check
pub record Unmarked (taken : Taken) (s : List ℕ) (h : Header) : Type 0 where
  pub judged : judge_of taken s ≡ Ok h
  pub filed : Filed s h
  pub left : check_of taken s ≡ check_apart s h

-- 8 to 12, where the check accepts with capacity c and grain size g
pub record Passed (s : List ℕ) (h : Header) (c g : ℕ) : Type 0 where
  pub places : misplaced s h ≡ false
  pub grains : lowest_past s h ≡ None
  pub markers : lowest_bad_marker s h ≡ None
  pub copies : copies_differ s h ≡ false
  pub apart : meet (areas s h) ≡ false
  pub capacity : c ≡ h.capacity
  pub size : g ≡ h.grain_size
