-- All changes are those of the tables, one after the other, and three times as many words as entries that differ.
use Prim.Native.Nat.{ℕ, zero, suc, ◌+◌, ◌*◌, ◌/◌, ◌%◌, ◌≤◌, ◌<◌, min}
use mathlib.Core.Path.{◌≡◌, refl, sym, ap, ◌∙◌}
use mathlib.Core.List.{List, [], ◌∷◌}
use mathlib.Core.Bool.{Bool, true, false}
use native.Mathlib.Omega.{arith}
use native.Mathlib.Nat.{mul-add-div_right, mul-add-mod_self_right, div-eq_of_lt, mod-eq_of_lt, add-zero, suc-mul}
use lib.Dec.{eqb}
use lib.ListN.{length, length-append}
use Rattle.base.specs.Pick.{pick}
use Rattle.base.specs.Rows.{rows}
use Rattle.base.specs.SumsBelow.{sum_below}
use Rattle.base.proofs.Rows.{rows_same, rows_split, rows_none}
use Rattle.format.specs.Header.{grains_of, directory_entries_of}
use Rattle.format.specs.Entries.{entry_at, entries_in_use}
use Rattle.format.specs.Mend.{good_entry, other_entry, change_of, change_at, changes}
use Rattle.format.specs.Judged.{Sound}
use Rattle.format.specs.declared.Header.{Header}
use Rattle.format.specs.declared.Entry.{Entry}
use Rattle.format.specs.declared.Entry.TheVariants.{Absent, Zero, Sector}
use Rattle.format.proofs.Geometry.{first_grain, entries_enough}
use Rattle.changes.specs.TableChanges.{one_if_differs, differing_in, differing_at, differing_all, changes_in, changes_at}

-- ---- table by table
module _ (s : List ℕ) (g : Header) (z : Sound g) where
  change_of_lem : (d k : ℕ) → k < g.entries_per_table → change_at s g (d * g.entries_per_table + k)
      ≡ change_of s (d * g.entries_per_table + k) k (good_entry s g d) (other_entry s g d)
  change_of_lem d k lt =
      let per = g.entries_per_table in
      let q : (d * per + k) / per ≡ d = mul-add-div_right (omega arith) d k ∙ rw (div-eq_of_lt lt, add-zero) in
      let r : (d * per + k) % per ≡ k = mul-add-mod_self_right d per k ∙ mod-eq_of_lt lt in
      rw (q, r)

  by_table : (d : ℕ) → d ≤ directory_entries_of g
      → rows (min (grains_of g) (d * g.entries_per_table)) (change_at s g) ≡ rows d (changes_at s g)
  unfolding rows
  by_table zero l = let e : min (grains_of g) (0 * g.entries_per_table) ≡ 0 = omega arith in rw e
  by_table (suc d) l =
      let per = g.entries_per_table in
      let first : d * per < grains_of g =
      first_grain g.capacity g.grain_size z.sizes.low per z.some d (omega arith) in
      let whole : min (grains_of g) (d * per) ≡ d * per = omega arith in
      let more : min (grains_of g) (suc d * per) ≡ d * per + entries_in_use g d = omega (arith, suc-mul d per) in
      rw (
        more,
        rows_split (d * per) (entries_in_use g d) (change_at s g),
        rw whole at (by_table d (omega arith)),
        rows_same (entries_in_use g d) (λ k. change_at s g (d * per + k)) _ (λ k b. change_of_lem d k (omega arith)),
      )

  pub changes_by_table : changes s g ≡ rows (directory_entries_of g) (changes_at s g)
  changes_by_table =
      let per = g.entries_per_table in
      let enough = entries_enough g.capacity g.grain_size z.sizes.low per z.some in
      let all : min (grains_of g) (directory_entries_of g * per) ≡ grains_of g = omega (arith, enough) in
      rw all at (by_table (directory_entries_of g) (omega arith))

-- ---- three words a change
three_words : (b : Bool) (x y z : ℕ) → length (pick b [] (x ∷ y ∷ z ∷ [])) ≡ 3 * pick b 0 1
unfolding pick
three_words true x y z = refl
three_words false x y z = refl

words_of : (f : ℕ → List ℕ) (h : ℕ → ℕ) (n : ℕ) → ((k : ℕ) → k < n → length (f k) ≡ 3 * h k) → length (rows n f)
    ≡ 3 * sum_below h n
unfolding rows sum_below
words_of f h zero e = refl
words_of f h (suc n) e =
    omega (arith, length-append (rows n f) (f n), words_of f h n (λ k b. e k (omega arith)), e n (omega arith))

words_in : (s : List ℕ) (first n : ℕ) (a b : Entry) → length (changes_in s first n a b) ≡ 3 * differing_in s n a b
unfolding change_of differing_in
words_in s first n (Sector t) (Sector u) =
    words_of _ (λ k. one_if_differs (entry_at s u k) (entry_at s t k)) n
    (λ k b. three_words (eqb (entry_at s u k) (entry_at s t k)) _ _ _)
words_in s first n (Sector t) Absent = rw (rows_none {A = ℕ} n (λ k. []) (λ k b. refl))
words_in s first n (Sector t) Zero = rw (rows_none {A = ℕ} n (λ k. []) (λ k b. refl))
words_in s first n Absent b = rw (rows_none {A = ℕ} n (λ k. []) (λ k b. refl))
words_in s first n Zero b = rw (rows_none {A = ℕ} n (λ k. []) (λ k b. refl))

pub words_all : (s : List ℕ) (g : Header) → Sound g → 3 * differing_all s g ≡ length (changes s g)
words_all s g z =
    sym (ap length (changes_by_table s g z)
    ∙ words_of (changes_at s g) (differing_at s g) (directory_entries_of g)
    (λ d l. words_in s (d * g.entries_per_table) (entries_in_use g d) (good_entry s g d) (other_entry s g d)))
