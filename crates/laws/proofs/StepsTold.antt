-- The steps of a lookup (issue 29): its answer, the entries that stand on the way, and how the one follows from the others.
use Prim.Native.Nat.{ℕ, zero, suc, ◌+◌, ◌*◌, ◌/◌, ◌%◌, ◌≤◌}
use mathlib.Core.Path.{◌≡◌, refl, sym, ◌∙◌}
use mathlib.Core.List.{List}
use mathlib.Core.Bool.{Bool, true, false, ◌&&◌}
use native.Mathlib.Omega.{arith}
use native.Mathlib.Nat.{mod-lt}
use lib.Dec.{leb, eqb}
use borrow.Author.Tests.{leb-true, leb-false, ltb-false, eqb-false}
use Rattle.base.specs.Pick.{pick}
use Rattle.base.proofs.Steps.{cond_all, pick_both, or_no}
use Rattle.format.specs.Geometry.{file_sectors}
use Rattle.format.specs.Header.{judge}
use Rattle.format.specs.Entries.{meaning}
use Rattle.format.specs.Check.{directory_misplaced}
use Rattle.format.specs.Source.{entry_source, lookup_grain, lookup_entry, lookup_table, lookup_in, lookup_from, sector_lookup}
use Rattle.format.specs.Answers.{located}
use Rattle.format.specs.Way.{no_way, to_grain, to_directory, to_table, way_table, way_in, way_from, way, lookup_steps}
use Rattle.format.specs.declared.Header.{Header}
use Rattle.format.specs.declared.Entry.{Entry}
use Rattle.format.specs.declared.Entry.TheVariants.{Absent, Zero, Sector}
use Rattle.format.specs.declared.steps.Way.{Way}
use Rattle.format.proofs.HeaderSound.{sound_of}
use Rattle.format.proofs.Geometry.{grain_of_lem, entry_used}
use Rattle.format.proofs.Places.{directory_in}
use Rattle.laws.specs.Reached.{grain_at, in_directory, in_table_at, OfDisk, ToDirectory, ToTable, Reached, header, past}
use Rattle.laws.specs.Reached.{directory, no_table, table, grain_past, marker, found, Stands, unreached, reached}
use Rattle.std.specs.Prelude.{Result, Ok, Err}
use Rattle.format.specs.declared.Source.{Source}
use Rattle.format.specs.declared.Refusal.{Refusal}

-- an entry that names no sector
absent_no : {t : ℕ} → Absent ≡ Sector t → ⊥
absent_no e = let n : ◌≡◌ {A = ℕ} 0 1 = cc in absurd (omega arith)

zero_no : {t : ℕ} → Zero ≡ Sector t → ⊥
zero_no e = let n : ◌≡◌ {A = ℕ} 0 1 = cc in absurd (omega arith)

same_sector : {e d : ℕ} → Sector e ≡ Sector d → e ≡ d
same_sector q = cc

above : (n : ℕ) → (n ≡ 0 → ⊥) → 1 ≤ n
above zero some = absurd (some refl)
above (suc n) some = omega arith

-- an entry that names a sector does not name sector 0
names_some : (one_is_zero : Bool) (e t : ℕ) → meaning one_is_zero e ≡ Sector t → 1 ≤ t
unfolding meaning pick
names_some one_is_zero e t q = by (eqb e 0) (one_is_zero && eqb e 1) refl q
  where
    by : (b c : Bool) → eqb e 0 ≡ b → pick b Absent (pick c Zero (Sector e)) ≡ Sector t → 1 ≤ t
    by true c n p = absurd (absent_no p)
    by false true n p = absurd (zero_no p)
    by false false n p = rw (same_sector p) at (above e (eqb-false e 0 n))

module _ (s : List ℕ) (x : ℕ) where
  -- ---- number, place, kind, sector, size and offset are the lookup's
  pub steps_number : ((lookup_steps s x).number ≡ (located (sector_lookup s x)).number)
      × ((lookup_steps s x).place ≡ (located (sector_lookup s x)).place)
  steps_number = (refl, refl)

  pub steps_source : ((lookup_steps s x).kind ≡ (located (sector_lookup s x)).kind)
      × ((lookup_steps s x).sector ≡ (located (sector_lookup s x)).sector)
      × ((lookup_steps s x).size ≡ (located (sector_lookup s x)).size)
      × ((lookup_steps s x).offset ≡ (located (sector_lookup s x)).offset)
  steps_source = (refl, refl, refl, refl)

  -- ---- how far the lookup comes, and what it answers there
  module _ (h : Header) where
    abbrev g : ℕ
    g = grain_at h x

    abbrev o : ℕ
    o = x % h.grain_size

    -- by the table's entry
    by_entry : (t : ℕ) → ToTable s h x t → (e : Entry) → in_table_at s h x t ≡ e
        → Reached s x (lookup_entry s h g o e) (to_table s h g t)
    unfolding lookup_entry lookup_grain entry_source
    by_entry t there Absent q = rw q at (found there (λ e p. absurd (absent_no (sym q ∙ p))))
    by_entry t there Zero q = rw q at (found there (λ e p. absurd (zero_no (sym q ∙ p))))
    by_entry t there (Sector e) q =
        cond_all Ends _ _ _ (λ p. grain_past there q p)
        (λ n.
        cond_all Ends _ _ _ (λ p. marker there q n p)
        (λ m. rw q at (found there (λ d p. let is = same_sector (sym q ∙ p) in (rw is at n, rw is at m)))))
      where
        Ends : Result Source Refusal → Type 0
        Ends a = Reached s x a (to_table s h g t)

    -- by the directory's entry
    by_directory : ToDirectory s h x → (e : Entry) → in_directory s h x ≡ e
        → Reached s x (lookup_table s h g o e) (way_table s h g e)
    unfolding lookup_table way_table to_directory to_table entry_source
    by_directory there Absent q = rw q at (no_table there (λ t p. absent_no (sym q ∙ p)))
    by_directory there Zero q = rw q at (no_table there (λ t p. zero_no (sym q ∙ p)))
    by_directory there (Sector t) q =
        pick_both (Reached s x) _ _ _ _ _ (λ p. table there q p)
        (λ n. by_entry t (record { before = there; named = q; placed = n }) _ refl)

    known_reached : judge s ≡ Ok h → Reached s x (lookup_in s h x) (way_in s h x)
    unfolding lookup_in way_in to_directory
    known_reached known =
        pick_both (Reached s x) (leb h.capacity x) _ _ _ _ (λ p. past known (leb-true h.capacity x p))
        (λ n.
        let disk : OfDisk s h x = record { known = known; below = leb-false h.capacity x n } in
        pick_both (Reached s x) (directory_misplaced (file_sectors s) h) _ _ _ _ (λ p. directory disk p)
        (λ m. by_directory (record { disk = disk; placed = m }) _ refl))

  from : (a : Result Header Refusal) → judge s ≡ a → Reached s x (lookup_from s x a) (way_from s x a)
  unfolding lookup_from way_from
  from (Err r) e = header e
  from (Ok h) e = known_reached h e

  pub steps_reached : Reached s x (sector_lookup s x) (way s x)
  steps_reached = from (judge s) refl

-- ---- where an offset is not 0, its entry is the number that stands there
module _ (s : List ℕ) (x : ℕ) where
  -- both entries lie in the file, behind the header
  directory_place : (h : Header) → ToDirectory s h x
      → (512 ≤ 512 * h.directory + 4 * (grain_at h x / h.entries_per_table))
      × (512 * h.directory + 4 * (grain_at h x / h.entries_per_table) + 4 ≤ 512 * file_sectors s)
  directory_place h there =
      let z = sound_of s h there.disk.known in
      let used = grain_of_lem h.capacity h.grain_size z.sizes.low x there.disk.below in
      let d = entry_used h.capacity h.grain_size z.sizes.low h.entries_per_table z.some (grain_at h x)
      used in
      let some = above h.directory (eqb-false h.directory 0 (or_no (eqb h.directory 0) _ there.placed).0) in
      (omega (arith, some), omega (arith, z.directory, directory_in (file_sectors s) h there.placed))

  table_place : (h : Header) (t : ℕ) → ToTable s h x t → (512 ≤ 512 * t + 4 * (grain_at h x % h.entries_per_table))
      × (512 * t + 4 * (grain_at h x % h.entries_per_table) + 4 ≤ 512 * file_sectors s)
  table_place h t there =
      let z = sound_of s h there.before.disk.known in
      let k = mod-lt (grain_at h x) z.some in
      let some = names_some _ _ t there.named in
      (omega (arith, some), omega (arith, z.table, ltb-false (file_sectors s) (t + h.table_sectors) there.placed))

  both : {h : Header} {t : ℕ} → ToTable s h x t
      → (Stands s (to_table s h (grain_at h x) t).directory_at (to_table s h (grain_at h x) t).directory_entry)
      × (Stands s (to_table s h (grain_at h x) t).table_at (to_table s h (grain_at h x) t).table_entry)
  unfolding to_table
  both {h} {t} there =
      let d = directory_place h there.before in
      let k = table_place h t there in
      (reached d.0 d.1, reached k.0 k.1)

  stands : {a : Result Source Refusal} {w : Way} → Reached s x a w
      → (Stands s w.directory_at w.directory_entry) × (Stands s w.table_at w.table_entry)
  unfolding no_way to_grain to_directory to_table
  stands (header e) = (unreached, unreached)
  stands (past e p) = (unreached, unreached)
  stands (directory e p) = (unreached, unreached)
  stands (no_table e p) = let d = directory_place _ e in (reached d.0 d.1, unreached)
  stands (table e p q) = let d = directory_place _ e in (reached d.0 d.1, unreached)
  stands (grain_past e p q) = both e
  stands (marker e p q r) = both e
  stands (found e p) = both e

  pub directory_stands : Stands s (lookup_steps s x).directory_at (lookup_steps s x).directory_entry
  directory_stands = (stands (steps_reached s x)).0

  pub table_stands : Stands s (lookup_steps s x).table_at (lookup_steps s x).table_entry
  table_stands = (stands (steps_reached s x)).1
