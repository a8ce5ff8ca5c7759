-- What is known of an image once 8 was judged and kept: directories and tables lie in the file.
use Prim.Native.Nat.{ℕ, ◌+◌, ◌*◌, ◌≤◌, ◌<◌}
use mathlib.Core.Path.{◌≡◌}
use mathlib.Core.List.{List}
use mathlib.Core.Bool.{false}
use native.Mathlib.Omega.{arith}
use lib.ListN.{length}
use Rattle.format.specs.Geometry.{file_sectors}
use Rattle.format.specs.Header.{directory_entries_of, grains_of}
use Rattle.format.specs.Entries.{meaning_at}
use Rattle.format.specs.Check.{directory_misplaced, redundant_directory_misplaced}
use Rattle.format.specs.Judged.{Sound, Placed}
use Rattle.format.specs.declared.Header.{Header}
use Rattle.format.specs.declared.Entry.TheVariants.{Sector}
use Rattle.format.proofs.Geometry.{first_grain}
use Rattle.format.proofs.Inside.{table_in}
use Rattle.format.proofs.Places.{Places, places_kept, primary_in, directory_in, redundant_in, redundant_tables_lem}

-- ---- a directory that does not run past F holds its entries
module _ (s : List ℕ) (h : Header) (z : Sound h) (n : ℕ) (e : n ≡ directory_entries_of h) where
  pub directory_holds : directory_misplaced (file_sectors s) h ≡ false → 512 * h.directory + 4 * n ≤ length s
  directory_holds k = omega (arith, z.directory, directory_in (file_sectors s) h k)

  pub redundant_holds : redundant_directory_misplaced (file_sectors s) h ≡ false → (h.redundant ≡ 0 → ⊥) → 512 * h.redundant
      + 4 * n ≤ length s
  redundant_holds k one = omega (arith, z.directory, redundant_in (file_sectors s) h k one)

-- ---- the entries in use of both directories, and their tables
module _ (s : List ℕ) (h : Header) (p : Placed s h) where
  kept : Places s h
  kept = places_kept s h p.kept

  -- in bytes, of n entries
  module _ (n : ℕ) (q : n ≡ directory_entries_of h) where
    pub primary_room : 512 * h.directory + 4 * n ≤ length s
    primary_room = omega (arith, p.sound.directory, primary_in s h kept)

    pub table_room : (d t : ℕ) → d < n → meaning_at s h.one_is_zero h.directory d ≡ Sector t → 512 * t
        + 4 * h.entries_per_table ≤ length s
    table_room d t l e =
        omega (arith, p.sound.table, table_in s _ _ _ (directory_entries_of h) kept.tables d t (omega arith) e)

    module _ (one : h.redundant ≡ 0 → ⊥) where
      pub copies_room : 512 * h.redundant + 4 * n ≤ length s
      copies_room = redundant_holds s h p.sound n q kept.redundant one

      pub copy_room : (d t : ℕ) → d < n → meaning_at s h.one_is_zero h.redundant d ≡ Sector t → 512 * t
          + 4 * h.entries_per_table ≤ length s
      copy_room d t l e =
          let copies = rw (redundant_tables_lem s h one) at kept.copies in
          omega (arith, p.sound.table, table_in s _ _ _ (directory_entries_of h) copies d t (omega arith) e)

    pub grains_left : (g : ℕ) → g ≡ grains_of h → (d : ℕ) → d < n → d * h.entries_per_table < g
    grains_left g i d l =
        let z = p.sound in
        let first = first_grain h.capacity h.grain_size z.sizes.low h.entries_per_table z.some in
        omega (arith, first d (omega arith))
