-- Mending: which entries differ and how the list tells of them, and which bytes may be written. g is a header as read from the
-- good side.
use Rattle.std.specs.Prelude.{ℕ, ◌+◌, ◌*◌, ◌/◌, ◌%◌, ◌≤◌, ◌<◌, ◌≡◌, List, length, get_or}
use Rattle.format.specs.Header.{directory_entries_of}
use Rattle.format.specs.Entries.{entry_at, entries_in_use}
use Rattle.format.specs.Mend.{good_entry, other_entry}
use Rattle.format.specs.declared.Header.{Header}
use Rattle.format.specs.declared.Entry.TheVariants.{Sector}

-- ---- the entries that differ
-- the entry of a grain differs: the good side's table t has another number than the other side's, u
pub record Differing (s : List ℕ) (g : Header) (grain : ℕ) : Type 0 where
  pub t : ℕ
  pub u : ℕ
  pub good : good_entry s g (grain / g.entries_per_table) ≡ Sector t
  pub other : other_entry s g (grain / g.entries_per_table) ≡ Sector u
  pub differ : entry_at s u (grain % g.entries_per_table) ≡ entry_at s t (grain % g.entries_per_table) → ⊥

-- change i of a list has three words: grain, old entry and new entry
pub record TellsAt (words : List ℕ) (i grain old new : ℕ) : Type 0 where
  pub inside : 3 * i + 3 ≤ length words
  pub first : get_or words (3 * i) 0 ≡ grain
  pub second : get_or words (3 * i + 1) 0 ≡ old
  pub third : get_or words (3 * i + 2) 0 ≡ new

-- ---- the bytes that may be written: those of the entries in use of the other side's tables
pub record InUse (s : List ℕ) (g : Header) (i : ℕ) : Type 0 where
  pub d : ℕ
  pub below : d < directory_entries_of g
  pub u : ℕ
  pub names : other_entry s g d ≡ Sector u
  pub from : 512 * u ≤ i
  pub to : i < 512 * u + 4 * entries_in_use g d
