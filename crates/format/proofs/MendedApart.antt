-- The changed image where header, footer, directories and tables lie apart: sector by sector, and entry by entry.
use Prim.Native.Nat.{ℕ, ◌+◌, ◌*◌, ◌/◌, ◌≤◌, ◌<◌}
use mathlib.Core.Path.{◌≡◌}
use mathlib.Core.List.{List}
use mathlib.Core.Logic.{inl, inr, ⊎_elim}
use native.Mathlib.Omega.{arith}
use native.Mathlib.Nat.{add_assoc}
use lib.ListN.{length, get_or}
use Rattle.base.proofs.SameBytes.{number_moved}
use Rattle.base.proofs.Steps.{lt_or_ge}
use Rattle.format.specs.Header.{directory_entries_of}
use Rattle.format.specs.Entries.{entry_at, entries_in_use}
use Rattle.format.specs.Areas.{Area, named, redundant_tables, holders, Apart}
use Rattle.format.specs.Mend.{good_entry, other_entry, mended_below, mended, areas_kept_apart}
use Rattle.format.specs.Judged.{Placed}
use Rattle.format.specs.declared.Header.{Header}
use Rattle.format.specs.declared.Entry.TheVariants.{Sector}
use Rattle.format.proofs.Areas.{holders_append}
use Rattle.format.proofs.Held.{held_row, held_rows, held_named}
use Rattle.format.proofs.MendedBytes.{Outside, mended_long, mended_spared, mended_moved}
use Rattle.format.proofs.Places.{redundant_tables_lem}

-- m differs from s in no sector but those of the other side's tables
pub record Kept (s : List ℕ) (g : Header) (m : List ℕ) : Type 0 where
  pub long : length m ≡ length s
  pub kept : (i : ℕ) → holders (redundant_tables s g) (i / 512) ≡ 0 → get_or m i 0 ≡ get_or s i 0

-- and in these it has the good side's entries in use
pub record Changed (s : List ℕ) (g : Header) (m : List ℕ) : Type 0 where
  pub rest : Kept s g m
  pub moved : (d t u : ℕ) → d < directory_entries_of g → good_entry s g d ≡ Sector t → other_entry s g d ≡ Sector u → (k : ℕ)
      → k < entries_in_use g d → entry_at m u k ≡ entry_at s t k

module _ (s : List ℕ) (g : Header) (p : Placed s g) (two : g.redundant ≡ 0 → ⊥) where
  -- the area of the other side's table of entry d
  abbrev table_of : ℕ → List Area
  table_of d = named (λ e. g.table_sectors) (other_entry s g d)

  -- a byte of the entries in use stands in a sector of the table
  in_table_lem : (d u i : ℕ) → other_entry s g d ≡ Sector u → 512 * u ≤ i → i < 512 * u + 4 * entries_in_use g d
      → holders (table_of d) (i / 512) ≡ 1
  in_table_lem d u i e l b =
      held_named (λ x. g.table_sectors) (other_entry s g d) u (i / 512) e (omega arith) (omega (arith, p.sound.table))

  outside_table : (d i : ℕ) → holders (table_of d) (i / 512) ≡ 0 → Outside (entries_in_use g d) (other_entry s g d) i
  outside_table d i z u e =
      ⊎_elim (λ l. inl l)
      (λ l.
      ⊎_elim (λ b. absurd (omega (arith, in_table_lem d u i e l b))) (λ b. inr b)
      (lt_or_ge i (512 * u + 4 * entries_in_use g d)))
      (lt_or_ge i (512 * u))

  pub mended_kept : (d : ℕ) → d ≤ directory_entries_of g → Kept s g (mended_below s g d)
  mended_kept d l =
      record {
        long = mended_long s g p two d l;
        kept = λ i z.
            let none = rw (redundant_tables_lem s g two) at z in
            mended_spared s g p two d l i
            (λ k b.
            outside_table k i (omega (arith, none, held_row table_of (i / 512) (directory_entries_of g) k (omega arith))));
      }

  module _ (apart : Apart (areas_kept_apart s g)) where
    -- no sector lies in two of the other side's tables
    tables_apart : (x : ℕ) → holders (redundant_tables s g) x ≤ 1
    tables_apart x = omega (arith, simp holders_append at (apart x))

    -- so a byte of the one stands outside all others
    module _ (d u j : ℕ) (l : d < directory_entries_of g) (e : other_entry s g d ≡ Sector u)
        (b : j < 4 * entries_in_use g d) where
      outside_others : (k : ℕ) → k < directory_entries_of g → (k ≡ d → ⊥)
          → Outside (entries_in_use g k) (other_entry s g k) (512 * u + j)
      outside_others k m n =
          let x = (512 * u + j) / 512 in
          let one = rw (redundant_tables_lem s g two) at (tables_apart x) in
          let own = in_table_lem d u (512 * u + j) e (omega arith) (omega arith) in
          outside_table k (512 * u + j)
          (⊎_elim (λ c. omega (arith, one, own, held_rows table_of x (directory_entries_of g) k d c l))
          (λ c. omega (arith, one, own, held_rows table_of x (directory_entries_of g) d k (omega arith) m)) (lt_or_ge k d))

    pub mended_byte : (d t u : ℕ) → d < directory_entries_of g → good_entry s g d ≡ Sector t → other_entry s g d ≡ Sector u
        → (j : ℕ) → j < 4 * entries_in_use g d → get_or (mended s g) (512 * u + j) 0 ≡ get_or s (512 * t + j) 0
    mended_byte d t u l is e j b =
        mended_moved s g p two d t u is e j b (directory_entries_of g) (omega arith) l (outside_others d u j l e b)

    mended_entry : (d t u : ℕ) → d < directory_entries_of g → good_entry s g d ≡ Sector t → other_entry s g d ≡ Sector u
        → (k : ℕ)
        → k < entries_in_use g d → entry_at (mended s g) u k ≡ entry_at s t k
    mended_entry d t u l is e k b =
        number_moved (mended s g) s (512 * u + 4 * k) (512 * t + 4 * k) 4
        (λ i c. simp add_assoc (mended_byte d t u l is e (4 * k + i) (omega arith)))

    pub mended_changed : Changed s g (mended s g)
    mended_changed =
        record { rest = mended_kept (directory_entries_of g) (omega arith); moved = mended_entry }
