-- Laws of entries counted one after the other.
use Prim.Native.Nat.{ℕ, zero, suc, ◌+◌, ◌-◌, ◌*◌, ◌≤◌, ◌<◌, min}
use mathlib.Core.Path.{◌≡◌, refl, sym, ap, ◌∙◌}
use mathlib.Core.List.{List}
use mathlib.Core.Bool.{Bool}
use native.Mathlib.Omega.{arith}
use native.Mathlib.Nat.{add-zero}
use native.Mathlib.Numerals.{add-one}
use lib.ListN.{length}
use Rattle.format.specs.Header.{grains_of, directory_entries_of}
use Rattle.format.specs.Entries.{in_table, meaning_at, grain_entry}
use Rattle.format.specs.Judged.{Placed}
use Rattle.format.specs.declared.Header.{Header}
use Rattle.format.specs.declared.Entry.{Entry}
use Rattle.format.specs.declared.Entry.TheVariants.{Absent, Zero, Sector}
use Rattle.format.proofs.Entries.{entry_of}
use Rattle.format.proofs.Geometry.{first_grain, entries_enough}
use Rattle.format.proofs.PlacesKept.{primary_room, table_room}
use Rattle.kinds.specs.declared.Kinds.{Kinds}
use Rattle.kinds.specs.Counting.{none, with_many, with_entries, all_of}

-- ---- one entry, n times
pub many_all : (k : Kinds) (d : Entry) (n : ℕ) → all_of (with_many k d n) ≡ all_of k + n
unfolding with_many
many_all k Absent n = omega arith
many_all k Zero n = omega arith
many_all k (Sector e) n = omega arith

many_none : (k : Kinds) (d : Entry) → with_many k d 0 ≡ k
unfolding with_many
many_none k Absent = λ i. record { absent = add-zero k.absent i; zero = k.zero; named = k.named }
many_none k Zero = λ i. record { absent = k.absent; zero = add-zero k.zero i; named = k.named }
many_none k (Sector e) = λ i. record { absent = k.absent; zero = k.zero; named = add-zero k.named i }

many_more : (k : Kinds) (d : Entry) (n : ℕ) → with_many (with_many k d n) d 1 ≡ with_many k d (suc n)
unfolding with_many
many_more k Absent n =
    let e : k.absent + n + 1 ≡ k.absent + suc n = omega arith in
    λ i. record { absent = e i; zero = k.zero; named = k.named }
many_more k Zero n =
    let e : k.zero + n + 1 ≡ k.zero + suc n = omega arith in λ i. record { absent = k.absent; zero = e i; named = k.named }
many_more k (Sector s) n =
    let e : k.named + n + 1 ≡ k.named + suc n = omega arith in λ i. record { absent = k.absent; zero = k.zero; named = e i }

-- ---- rows of entries
pub entries_all : (k : Kinds) (f : ℕ → Entry) (n : ℕ) → all_of (with_entries k f n) ≡ all_of k + n
unfolding with_entries
entries_all k f zero = sym (add-zero _)
entries_all k f (suc n) = omega (arith, many_all (with_entries k f n) (f n) 1, entries_all k f n)

entries_same : (k : Kinds) (f g : ℕ → Entry) (n : ℕ) → ((i : ℕ) → i < n → f i ≡ g i) → with_entries k f n ≡ with_entries k g n
unfolding with_entries
entries_same k f g zero e = refl
entries_same k f g (suc n) e = rw (entries_same k f g n (λ i b. e i (omega arith)), e n (omega arith))

-- all of one entry
pub entries_many : (k : Kinds) (f : ℕ → Entry) (d : Entry) (n : ℕ) → ((i : ℕ) → f i ≡ d) → with_many k d n ≡ with_entries k f n
unfolding with_entries
entries_many k f d zero e = many_none k d
entries_many k f d (suc n) e = sym (many_more k d n) ∙ rw (entries_many k f d n e, e n)

-- one row after another
entries_more : (k : Kinds) (f : ℕ → Entry) (m n : ℕ)
    → with_entries (with_entries k f m) (λ i. f (m + i)) n ≡ with_entries k f (m + n)
unfolding with_entries
entries_more k f m zero = ap (with_entries k f) (sym (add-zero m))
entries_more k f m (suc n) = let e : m + suc n ≡ suc (m + n) = omega arith in rw (e, entries_more k f m n)

-- ---- entry i of a row, as the code counts it
module _ (k counted : Kinds) (f : ℕ → Entry) (i : ℕ) (e : counted ≡ with_entries k f i) where
  pub entry_room : (n : ℕ) → all_of k + n ≤ 0x80000000 → i < n → all_of counted + 1 ≤ 0x80000000
  entry_room n room b = omega (arith, ap all_of e ∙ entries_all k f i)

  pub entries_done : (n : ℕ) → i ≤ n → n ≤ i → counted ≡ with_entries k f n
  entries_done n l m = let q : i ≡ n = omega arith in rw (← q) e

  pub entry_counted : (d : Entry) (r : Kinds) → d ≡ f i → r ≡ with_many counted d 1 → r ≡ with_entries k f (i + 1)
  unfolding with_entries
  entry_counted d r ed er = rw add-one (er ∙ rw (e, ed))

-- ---- the grains of a directory entry
module _ (k : Kinds) (s : List ℕ) (one : Bool) (n : ℕ) (table : Entry) (r : Kinds) where
  pub grains_absent : table ≡ Absent → r ≡ with_many k table n → r ≡ with_entries k (λ i. in_table s one i table) n
  unfolding in_table
  grains_absent q e = e ∙ entries_many k _ table n (λ i. rw q)

  pub grains_zero : table ≡ Zero → r ≡ with_many k table n → r ≡ with_entries k (λ i. in_table s one i table) n
  unfolding in_table
  grains_zero q e = e ∙ entries_many k _ table n (λ i. rw q)

  pub grains_named : (t : ℕ) → table ≡ Sector t → r ≡ with_entries k (meaning_at s one t) n
      → r ≡ with_entries k (λ i. in_table s one i table) n
  unfolding in_table
  grains_named t q e = rw q e

-- ---- directory entry d, whose first grain is d tables on
module _ (s : List ℕ) (h : Header) (p : Placed s h) (all : ℕ) (ea : all ≡ grains_of h) where
  module _ (d : ℕ) (in_use : d < directory_entries_of h) where
    pub first_below : d * h.entries_per_table < all
    first_below = let z = p.sound in
        omega (arith, first_grain h.capacity h.grain_size z.sizes.low h.entries_per_table z.some d in_use)

    pub directory_in : 512 * h.directory + 4 * d + 4 ≤ length s
    directory_in = omega (arith, primary_room s h p (directory_entries_of h) refl)

    module _ (table : Entry) (et : table ≡ meaning_at s h.one_is_zero h.directory d) (used : ℕ)
        (eu : used ≡ min h.entries_per_table (all - d * h.entries_per_table)) where
      pub table_in : (t : ℕ) → table ≡ Sector t → 512 * t + 4 * used ≤ length s
      table_in t q = omega (arith, table_room s h p (directory_entries_of h) refl d t in_use (sym et ∙ q))

      module _ (k : Kinds) (ek : k ≡ with_entries none (grain_entry s h) (min (d * h.entries_per_table) all)) where
        pub grains_room : all ≤ 0x80000000 → all_of k + used ≤ 0x80000000
        grains_room small =
            omega (arith, first_below, ap all_of ek ∙ entries_all none (grain_entry s h) (min (d * h.entries_per_table) all))

        pub grains_more : (r : Kinds) → r ≡ with_entries k (λ i. in_table s h.one_is_zero i table) used
            → r ≡ with_entries none (grain_entry s h) (min ((d + 1) * h.entries_per_table) all)
        grains_more r er =
            let first : ℕ = d * h.entries_per_table in
            let b = first_below in
            let m : min first all ≡ first = omega arith in
            let n : min ((d + 1) * h.entries_per_table) all ≡ first + used = omega arith in
            er
            ∙ entries_same k _ (λ i. grain_entry s h (first + i)) used
            (λ i b.
            sym (entry_of s h.one_is_zero h.entries_per_table h.directory first d i refl (omega arith) ∙ rw (sym et)))
            ∙ rw (ek, m, n) (entries_more none (grain_entry s h) first used)

  pub grains_all : (k : Kinds) (d : ℕ) → d ≡ directory_entries_of h
      → k ≡ with_entries none (grain_entry s h) (min (d * h.entries_per_table) all)
      → k ≡ with_entries none (grain_entry s h) (grains_of h)
  grains_all k d ed ek = let z = p.sound in
      let m : min (directory_entries_of h * h.entries_per_table) all ≡ grains_of h =
      omega (arith, entries_enough h.capacity h.grain_size z.sizes.low h.entries_per_table z.some) in rw (ed, m) at ek

pub grains_none : (f : ℕ → Entry) (n all : ℕ) → n ≡ 0 → none ≡ with_entries none f (min n all)
unfolding with_entries
grains_none f n all z = let m : min n all ≡ 0 = omega arith in rw m
