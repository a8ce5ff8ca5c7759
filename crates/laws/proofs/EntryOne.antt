-- Entry 1 where it is a sector: it names sector 1, and nothing of such an image is served as zeros. Elsewhere it means zeros.
use Prim.Native.Nat.{ℕ, ◌/◌, ◌%◌, ◌<◌}
use mathlib.Core.Path.{◌≡◌, refl, sym, ap, ◌∙◌}
use mathlib.Core.List.{List}
use mathlib.Core.Bool.{Bool, true, false}
use native.Mathlib.Omega.{arith}
use lib.Dec.{eqb}
use Rattle.base.specs.Pick.{pick}
use Rattle.base.specs.Numbers.{le_at}
use Rattle.format.specs.Kdmv.{kdmv_fields}
use Rattle.format.specs.Header.{kdmv_one_is_zero, kdmv_header, header_of, judge}
use Rattle.format.specs.Entries.{entry_at, meaning, in_table, meaning_at, entry_of_grain, grain_entry}
use Rattle.format.specs.Accepted.{AcceptedKdmv}
use Rattle.format.specs.Source.{grain_source, entry_source, source_of, lookup_from, lookup_in, sector_lookup}
use Rattle.format.specs.declared.Header.{Header}
use Rattle.format.specs.declared.Entry.{Entry}
use Rattle.format.specs.declared.Entry.TheVariants.{Absent as no_entry, Zero as zero_entry, Sector}
use Rattle.format.specs.declared.Source.{Source}
use Rattle.format.specs.declared.Source.TheVariants.{Zero}
use Rattle.format.specs.declared.Refusal.{Refusal}
use Rattle.format.proofs.Picked.{passed}
use Rattle.format.proofs.HeaderJudged.{judged_rules}
use Rattle.laws.proofs.LookupPlain.{lookup_plain}
use Rattle.laws.proofs.ServedSectors.{accepted_good, served}
use Rattle.std.specs.Prelude.{Result, Ok, Err}

-- ---- entries, where 1 is a sector
no_zero : (e : ℕ) → meaning false e ≡ zero_entry → ⊥
unfolding meaning pick
no_zero e q = by_test (eqb e 0) q
  where
    by_test : (b : Bool) → pick b no_entry (Sector e) ≡ zero_entry → ⊥
    by_test true q = let z : ◌≡◌ {A = ℕ} 0 1 = cc in omega arith
    by_test false q = let z : ◌≡◌ {A = ℕ} 0 1 = cc in omega arith

no_zero_in : (s : List ℕ) (k : ℕ) (d : Entry) → (d ≡ zero_entry → ⊥) → in_table s false k d ≡ zero_entry → ⊥
unfolding in_table
no_zero_in s k no_entry n q = n q
no_zero_in s k zero_entry n q = n refl
no_zero_in s k (Sector t) n q = no_zero (entry_at s t k) q

source_not_zero : (s : List ℕ) (packed : Bool) (o : ℕ) (d : Entry) → (d ≡ zero_entry → ⊥) → entry_source s packed o d ≡ Zero → ⊥
unfolding entry_source grain_source pick
source_not_zero s packed o no_entry n q = let z : ◌≡◌ {A = ℕ} 0 1 = cc in omega arith
source_not_zero s packed o zero_entry n q = n refl
source_not_zero s true o (Sector e) n q = let z : ◌≡◌ {A = ℕ} 0 1 = cc in omega arith
source_not_zero s false o (Sector e) n q = let z : ◌≡◌ {A = ℕ} 0 1 = cc in omega arith

module _ (s : List ℕ) (h : Header) (sector : h.one_is_zero ≡ false) where
  -- no grain is zero
  pub no_zero_grain : (g : ℕ) → grain_entry s h g ≡ zero_entry → ⊥
  unfolding entry_of_grain
  no_zero_grain g q = no_zero_in s _ _ (no_zero _) (rw sector at q)

  -- and no virtual sector's source is
  pub no_zero_source : (x : ℕ) → source_of s h x ≡ Zero → ⊥
  no_zero_source x q = source_not_zero s h.packed _ _ (no_zero_grain (x / h.grain_size)) q

  -- a grain whose table entry is 1 stands at file sector 1
  pub one_stands : (g t : ℕ) → meaning_at s h.one_is_zero h.directory (g / h.entries_per_table) ≡ Sector t
      → entry_at s t (g % h.entries_per_table) ≡ 1 → grain_entry s h g ≡ Sector 1
  unfolding entry_of_grain in_table meaning pick
  one_stands g t d e = rw (d, sector, e)

-- ---- images
-- `one_is_zero` of a header that is judged
judged_sector : (s : List ℕ) (h : Header) → kdmv_one_is_zero (kdmv_fields s) ≡ false → judge s ≡ Ok h → h.one_is_zero ≡ false
unfolding kdmv_header
judged_sector s h f e = ap (λ (k : Header). k.one_is_zero) (judged_rules s h e).1 ∙ f

-- what a lookup finds is the source that the entry table gives, also in an image that the check refuses
found_past : (b : Bool) (r : Refusal) (y : Result Source Refusal) (a : Source) → pick b (Err r) y ≡ Ok a → y ≡ Ok a
found_past b r y a e = (passed b (Err r) y (Ok a) (λ q. let z : ◌≡◌ {A = ℕ} 0 1 = cc in omega arith) e).1

found_same : (a b : Source) → ◌≡◌ {A = Result Source Refusal} (Ok a) (Ok b) → a ≡ b
found_same a b e = cc

found_source : (s : List ℕ) (h : Header) (x : ℕ) (a : Source) → lookup_in s h x ≡ Ok a → source_of s h x ≡ a
found_source s h x a q =
    found_same _ _ (found_past _ _ _ a (found_past _ _ _ a (found_past _ _ _ a (found_past _ _ _ a (found_past _ _ _ a
    (sym (lookup_plain s h x) ∙ q))))))

not_zero : (s : List ℕ) (x : ℕ) (a : Result Header Refusal) → kdmv_one_is_zero (kdmv_fields s) ≡ false → judge s ≡ a
    → lookup_from s x a ≡ Ok Zero → ⊥
unfolding lookup_from
not_zero s x (Err r) f e q = let z : ◌≡◌ {A = ℕ} 0 1 = cc in omega arith
not_zero s x (Ok h) f e q = no_zero_source s h (judged_sector s h f e) x (found_source s h x Zero q)

-- unless the version is 2 or 3 and flag 0x4 is set, no virtual sector is served as zeros
pub never_zeros : (s : List ℕ) (x : ℕ) → kdmv_one_is_zero (kdmv_fields s) ≡ false → sector_lookup s x ≡ Ok Zero → ⊥
never_zeros s x f q = not_zero s x (judge s) f refl q

-- a version 1 image
sector_in_one : (s : List ℕ) → le_at s 4 4 ≡ 1 → kdmv_one_is_zero (kdmv_fields s) ≡ false
unfolding kdmv_fields
sector_in_one s v = rw v

pub version_one : (s : List ℕ) (x : ℕ) → le_at s 4 4 ≡ 1 → sector_lookup s x ≡ Ok Zero → ⊥
version_one s x v q = never_zeros s x (sector_in_one s v) q

-- ---- virtual sector x, whose directory entry is told by its meaning, and its table entry by its number
module _ (s : List ℕ) (h : Header) (x : ℕ) where
  abbrev directory_means : Entry → Type 0
  directory_means d = meaning_at s h.one_is_zero h.directory (x / h.grain_size / h.entries_per_table) ≡ d

  abbrev table_holds : ℕ → ℕ → Type 0
  table_holds t e = entry_at s t (x / h.grain_size % h.entries_per_table) ≡ e

  -- a directory entry of 1 that is a sector names the table there
  pub one_names : h.one_is_zero ≡ false
      → entry_at s h.directory (x / h.grain_size / h.entries_per_table) ≡ 1 → directory_means (Sector 1)
  unfolding meaning pick
  one_names sector e = rw (sector, e)

  -- a table entry of 1 that is a sector: stored at 1 + o, or packed with its marker there
  source_at_one : (t : ℕ) → h.one_is_zero ≡ false → directory_means (Sector t) → table_holds t 1
      → source_of s h x ≡ grain_source s h.packed (x % h.grain_size) 1
  unfolding entry_source
  source_at_one t sector d e = rw (one_stands s h sector (x / h.grain_size) t d e)

  -- so the sector is refused, or served as that
  pub refused_or_one : (t : ℕ) (a : Source) → judge s ≡ Ok h → kdmv_one_is_zero (kdmv_fields s) ≡ false
      → directory_means (Sector t) → table_holds t 1 → sector_lookup s x ≡ Ok a
      → a ≡ grain_source s h.packed (x % h.grain_size) 1
  unfolding lookup_from
  refused_or_one t a known f d e q =
      sym (found_source s h x a (rw known at q)) ∙ source_at_one t (judged_sector s h f known) d e

  pub version_one_or_one : (t : ℕ) (a : Source) → judge s ≡ Ok h → le_at s 4 4 ≡ 1 → directory_means (Sector t)
      → table_holds t 1 → sector_lookup s x ≡ Ok a → a ≡ grain_source s h.packed (x % h.grain_size) 1
  version_one_or_one t a known v d e q = refused_or_one t a known (sector_in_one s v) d e q

-- ---- accepted images: no virtual sector below capacity is refused
module _ (s : List ℕ) (a : AcceptedKdmv s) (x : ℕ) (low : x < (header_of s).capacity) where
  pub one_served : (t : ℕ) → kdmv_one_is_zero (kdmv_fields s) ≡ false → directory_means s (header_of s) x (Sector t)
      → table_holds s (header_of s) x t 1
      → sector_lookup s x ≡ Ok (grain_source s (header_of s).packed (x % (header_of s).grain_size) 1)
  one_served t f d e =
      served s a x low
      ∙ ap Ok (source_at_one s (header_of s) x t (judged_sector s (header_of s) f (accepted_good s a).known) d e)

  -- where 1 means zeros it is zeros, in the directory and in a table
  pub directory_zeros : directory_means s (header_of s) x zero_entry → sector_lookup s x ≡ Ok Zero
  unfolding entry_of_grain in_table entry_source
  directory_zeros d = served s a x low ∙ rw d

  pub table_zeros : (t : ℕ) → (header_of s).one_is_zero ≡ true → directory_means s (header_of s) x (Sector t)
      → table_holds s (header_of s) x t 1 → sector_lookup s x ≡ Ok Zero
  unfolding entry_of_grain in_table entry_source meaning pick
  table_zeros t zeros d e = served s a x low ∙ rw (d, zeros, e)
