-- Where a grain of two layers comes from, each premise as the code gives it.
use Prim.Native.Nat.{ℕ, ◌+◌, ◌*◌, ◌/◌, ◌%◌, ◌≤◌, ◌<◌}
use mathlib.Core.Path.{◌≡◌, refl, sym, ◌∙◌}
use mathlib.Core.List.{List}
use mathlib.Core.Bool.{Bool}
use native.Mathlib.Omega.{arith}
use native.Mathlib.Nat.{mod-lt}
use lib.ListN.{length}
use Rattle.format.specs.Header.{grains_of}
use Rattle.format.specs.Entries.{in_table, meaning_at, entry_of_grain, grain_entry}
use Rattle.format.specs.Grains.{upper_unless_absent, grain_from, one_if_stored}
use Rattle.format.specs.declared.Header.{Header}
use Rattle.format.specs.declared.Entry.{Entry}
use Rattle.format.specs.declared.Entry.TheVariants.{Absent as no_entry, Zero as zero_entry, Sector}
use Rattle.format.proofs.Geometry.{entry_used}
use Rattle.format.proofs.Grains.{whole_length, grain_whole, onto_whole}
use Rattle.layout.proofs.StoredGrains.{Full}
use Rattle.layers.specs.declared.GrainSource.{GrainSource}
use Rattle.layers.specs.declared.GrainSource.TheVariants.{Absent, Zero, Lower, Upper}
use Rattle.layers.specs.TwoLayers.{from_lower, source_from, stores, grain_at, layered, Readable, Layers, Standing}

-- ---- entries that are read
module _ (s : List ℕ) (h : Header) (r : Readable s h) (g : ℕ) (used : g < grains_of h) where
  pub directory_read : 512 * h.directory + 4 * (g / h.entries_per_table) + 4 ≤ length s
  directory_read =
      omega (
        arith,
        r.directory,
        entry_used h.capacity h.grain_size r.sound.sizes.low h.entries_per_table
            r.sound.some g used,
      )

  pub table_read : (a : Entry) (t : ℕ) → a ≡ meaning_at s h.one_is_zero h.directory (g / h.entries_per_table)
      → a ≡ Sector t
      → 512 * t + 4 * (g % h.entries_per_table) + 4 ≤ length s
  table_read a t e q =
      let d =
      entry_used h.capacity h.grain_size r.sound.sizes.low h.entries_per_table r.sound.some g used in
      omega (arith, r.table _ t d (sym e ∙ q), mod-lt g r.sound.some)

-- ---- at the arms of a match
pub table_as : (s : List ℕ) (one_is_zero : Bool) (per_table directory g : ℕ) (z a v : Entry)
    → a ≡ meaning_at s one_is_zero directory (g / per_table) → a ≡ v
    → z ≡ in_table s one_is_zero (g % per_table) v → z ≡ entry_of_grain s one_is_zero per_table directory g
unfolding entry_of_grain
table_as s one_is_zero per_table directory g z a v e q p = rw (← e, q) p

pub lower_as : (z : GrainSource) (a v : Entry) → a ≡ v → z ≡ from_lower v → z ≡ from_lower a
lower_as z a v e p = rw e p

pub upper_as : (lower upper a v : Entry) (z : GrainSource) → a ≡ upper → a ≡ v → z ≡ source_from lower v
    → z ≡ source_from lower upper
upper_as lower upper a v z e q p = rw (← e, q) p

pub upper_absent : (lower upper a b : Entry) (z : GrainSource) → a ≡ upper → a ≡ no_entry → b ≡ lower → z ≡ from_lower b
    → z ≡ source_from lower upper
unfolding source_from
upper_absent lower upper a b z e q i p = rw (← e, q, ← i) p

-- ---- the entry behind a source
lower_named : (a b : Entry) (e : ℕ) → source_from a b ≡ Lower e → a ≡ Sector e
unfolding source_from from_lower
lower_named no_entry no_entry e q = let z : ◌≡◌ {A = ℕ} 0 1 = cc in absurd (omega arith)
lower_named zero_entry no_entry e q = let z : ◌≡◌ {A = ℕ} 0 1 = cc in absurd (omega arith)
lower_named (Sector i) no_entry e q = cc
lower_named a zero_entry e q = let z : ◌≡◌ {A = ℕ} 0 1 = cc in absurd (omega arith)
lower_named a (Sector i) e q = let z : ◌≡◌ {A = ℕ} 0 1 = cc in absurd (omega arith)

upper_named : (a b : Entry) (e : ℕ) → source_from a b ≡ Upper e → b ≡ Sector e
unfolding source_from from_lower
upper_named no_entry no_entry e q = let z : ◌≡◌ {A = ℕ} 0 1 = cc in absurd (omega arith)
upper_named zero_entry no_entry e q = let z : ◌≡◌ {A = ℕ} 0 1 = cc in absurd (omega arith)
upper_named (Sector i) no_entry e q = let z : ◌≡◌ {A = ℕ} 0 1 = cc in absurd (omega arith)
upper_named a zero_entry e q = let z : ◌≡◌ {A = ℕ} 0 1 = cc in absurd (omega arith)
upper_named a (Sector i) e q = cc

-- ---- the upper layer has the same grains
module _ (lower : List ℕ) (h : Header) (upper : List ℕ) (k : Header) (l : Layers lower h upper k) where
  grains_same : grains_of k ≡ grains_of h
  grains_same = rw (l.capacity, l.size)

  module _ (g : ℕ) (used : g < grains_of h) where
    pub upper_read : Readable upper k × (g < grains_of k)
    upper_read = (l.above, rw grains_same used)

    -- the bytes that a grain's source names stand in its layer
    pub standing : Standing lower upper h.grain_size (source_from (grain_entry lower h g) (grain_entry upper k g))
    standing = record {
      below = λ e q. l.below.grain g e used (lower_named _ _ e q);
      above = λ e q. rw l.size at (l.above.grain g e upper_read.1 (upper_named _ _ e q));
    }

-- ---- the grain of a source
module _ (lower upper : List ℕ) (c z g : ℕ) where
  merged : (a b : Entry) → grain_at lower upper c z g (source_from a b)
      ≡ upper_unless_absent (grain_from lower c z g a) (grain_from upper c z g b)
  unfolding grain_at source_from from_lower upper_unless_absent grain_from
  merged no_entry no_entry = refl
  merged zero_entry no_entry = refl
  merged (Sector e) no_entry = refl
  merged a zero_entry = refl
  merged a (Sector e) = refl

  pub stores_count : (s : GrainSource) → stores s ≡ one_if_stored (grain_at lower upper c z g s)
  unfolding stores one_if_stored grain_at
  stores_count Absent = refl
  stores_count Zero = refl
  stores_count (Lower e) = refl
  stores_count (Upper e) = refl

module _ (lower : List ℕ) (h : Header) (upper : List ℕ) (k : Header) (l : Layers lower h upper k) where
  -- it is the map's
  pub source_grain : (g : ℕ)
      → grain_at lower upper h.capacity h.grain_size g (source_from (grain_entry lower h g) (grain_entry upper k g))
      ≡ layered lower h upper k g
  source_grain g = merged lower upper h.capacity h.grain_size g _ _ ∙ rw (l.capacity, l.size)

  pub full : Full (layered lower h upper k) h.grain_size
  full = record {
    bytes = λ g.
        whole_length h.capacity h.grain_size g _
        (onto_whole _ _ g _ _ (grain_whole _ _ g lower _) (rw (l.capacity, l.size) (grain_whole _ _ g upper _)));
  }
