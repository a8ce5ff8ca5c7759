-- What the lookup does not use: two images that agree in what the check reads of them are looked up alike, in every sector.
use Prim.Native.Nat.{ℕ, ◌+◌, ◌/◌, ◌%◌, ◌≤◌, ◌<◌}
use mathlib.Core.Path.{◌≡◌, refl, ap}
use mathlib.Core.List.{List}
use mathlib.Core.Bool.{◌&&◌}
use native.Mathlib.Omega.{arith}
use native.Mathlib.Nat.{div-add-mod', mod-lt}
use borrow.Author.Tests.{ltb-false, leb-false}
use Rattle.base.proofs.Steps.{pick_both, and_both}
use Rattle.format.specs.Geometry.{file_sectors}
use Rattle.format.specs.Header.{grains_of, directory_entries_of}
use Rattle.format.specs.Entries.{entry_at, meaning, in_table, meaning_at, entry_of_grain, grain_entry, entries_in_use}
use Rattle.format.specs.Entries.{grain_sectors, marker_broken}
use Rattle.format.specs.Source.{grain_source, lookup_grain, lookup_entry, lookup_table, lookup_in}
use Rattle.format.specs.declared.Header.{Header}
use Rattle.format.specs.declared.Entry.{Entry}
use Rattle.format.specs.declared.Entry.TheVariants.{Absent, Zero, Sector}
use Rattle.format.specs.declared.Source.{Source}
use Rattle.format.specs.declared.Source.TheVariants.{Absent as no_source, Zero as zero_source}
use Rattle.format.specs.declared.Refusal.{Refusal}
use Rattle.format.specs.Judged.{Sound}
use Rattle.format.proofs.Geometry.{grain_of_lem, entry_used}
use Rattle.format.proofs.Entries.{some_sectors, past_same}
use Rattle.format.proofs.Places.{directory_in}
use Rattle.laws.specs.Unused.{SameInUse}
use Rattle.std.specs.Prelude.{Result, Ok, Err}

-- the same answer, and where it is a source one of which R holds
pub data SameAnswer (R : Source → Type 0) : Result Source Refusal → Result Source Refusal → Type 0 where
  refused : {r : Refusal} → SameAnswer R (Err r) (Err r)
  found : {a : Source} → R a → SameAnswer R (Ok a) (Ok a)

pub answer_same : {R : Source → Type 0} {a b : Result Source Refusal} → SameAnswer R a b → a ≡ b
answer_same refused = refl
answer_same (found r) = refl

-- R holds of what is not stored, and of each source that lies in the file
pub record InFile (s : List ℕ) (h : Header) (R : Source → Type 0) : Type 0 where
  pub absent : R no_source
  pub zero : R zero_source
  pub grain : (o e : ℕ) → o < h.grain_size → e + grain_sectors s h.packed h.grain_size e ≤ file_sectors s
      → R (grain_source s h.packed o e)

module _ (s t : List ℕ) (h : Header) (sound : Sound h) (same : SameInUse s t h) (R : Source → Type 0) (holds : InFile s h R)
  where
    -- ---- step by step: sector o of grain g
    module _ (g o : ℕ) (used : g < grains_of h) (low : o < h.grain_size) where
      module _ (e : ℕ) (names : grain_entry s h g ≡ Sector e) where
        marker_same : e < file_sectors s → (h.packed && marker_broken s h.grain_size g e)
            ≡ (h.packed && marker_broken t h.grain_size g e)
        unfolding marker_broken
        marker_same l =
            and_both h.packed _ _ (λ p. let m = same.markers p g e used names l in rw (m.0, m.1))

        source_same : e < file_sectors s → grain_source s h.packed o e ≡ grain_source t h.packed o e
        unfolding grain_source
        source_same l =
            pick_both ◌≡◌ h.packed _ _ _ _ (λ p. rw (same.markers p g e used names l).0) (λ n. refl)

        grain_found : SameAnswer R (lookup_grain s h g o e) (lookup_grain t h g o e)
        unfolding lookup_grain
        grain_found =
            rw (
              ← same.long,
              ← past_same h.packed h.grain_size e sound.sizes.low s t (file_sectors s)
                  (λ l p. (same.markers p g e used names l).0),
            )
            (pick_both (SameAnswer R) _ _ _ _ _ (λ p. refused)
            (λ n.
            let sectors = grain_sectors s h.packed h.grain_size e in
            let i : e + sectors ≤ file_sectors s = ltb-false (file_sectors s) (e + sectors) n in
            let l : e < file_sectors s = omega (arith, some_sectors s h.packed h.grain_size e sound.sizes.low) in
            rw (← marker_same l, ← source_same l)
            (pick_both (SameAnswer R) _ _ _ _ _ (λ p. refused) (λ m. found (holds.grain o e low i)))))

      entry_found : (d : Entry) → grain_entry s h g ≡ d → SameAnswer R (lookup_entry s h g o d) (lookup_entry t h g o d)
      unfolding lookup_entry
      entry_found Absent q = found holds.absent
      entry_found Zero q = found holds.zero
      entry_found (Sector e) q = grain_found e q

      abbrev own : List ℕ → Entry
      own u = meaning_at u h.one_is_zero h.directory (g / h.entries_per_table)

      pub in_table_lem : (u : ℕ) → own s ≡ Sector u → u + h.table_sectors ≤ file_sectors s
          → entry_at s u (g % h.entries_per_table) ≡ entry_at t u (g % h.entries_per_table)
      in_table_lem u q i =
          let d = g / h.entries_per_table in
          let l : d < directory_entries_of h =
          entry_used h.capacity h.grain_size sound.sizes.low h.entries_per_table sound.some g used in
          let m : g % h.entries_per_table < h.entries_per_table = mod-lt g sound.some in
          let k : g % h.entries_per_table < entries_in_use h d = omega (arith, div-add-mod' g h.entries_per_table) in
          same.primary.tables d u l q i (g % h.entries_per_table) k

      entry_is : (u : ℕ) → own s ≡ Sector u → grain_entry s h g ≡ meaning_at s h.one_is_zero u (g % h.entries_per_table)
      unfolding entry_of_grain in_table
      entry_is u q = rw q

      table_found : (d : Entry) → own s ≡ d → SameAnswer R (lookup_table s h g o d) (lookup_table t h g o d)
      unfolding lookup_table
      table_found Absent q = found holds.absent
      table_found Zero q = found holds.zero
      table_found (Sector u) q =
          rw (← same.long)
          (pick_both (SameAnswer R) _ _ _ _ _ (λ p. refused)
          (λ n.
          let i : u + h.table_sectors ≤ file_sectors s = ltb-false (file_sectors s) (u + h.table_sectors) n in
          rw (← ap (meaning h.one_is_zero) (in_table_lem u q i)) (entry_found _ (entry_is u q))))

    module _ (x : ℕ) where
      onward_found : x < h.capacity → h.directory + h.directory_sectors ≤ file_sectors s
          → SameAnswer R (lookup_table s h (x / h.grain_size) (x % h.grain_size)
          (meaning_at s h.one_is_zero h.directory (x / h.grain_size / h.entries_per_table)))
          (lookup_table t h (x / h.grain_size) (x % h.grain_size)
          (meaning_at t h.one_is_zero h.directory (x / h.grain_size / h.entries_per_table)))
      onward_found low i =
          let g = x / h.grain_size in
          let used : g < grains_of h = grain_of_lem h.capacity h.grain_size sound.sizes.low x low in
          let d =
          entry_used h.capacity h.grain_size sound.sizes.low h.entries_per_table sound.some g used in
          rw (← same.primary.entries i (g / h.entries_per_table) d)
          (table_found g _ used (mod-lt x sound.sizes.low) _ refl)

      pub unused_lookup : SameAnswer R (lookup_in s h x) (lookup_in t h x)
      unfolding lookup_in
      unused_lookup =
          rw (← same.long)
          (pick_both (SameAnswer R) _ _ _ _ _ (λ p. refused)
          (λ n.
          pick_both (SameAnswer R) _ _ _ _ _ (λ p. refused)
          (λ m. onward_found (leb-false _ _ n) (directory_in (file_sectors s) h m))))
