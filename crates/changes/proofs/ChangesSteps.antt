-- What counting and listing ask on their way, each premise as the code gives it.
use Prim.Native.Nat.{ℕ, ◌+◌, ◌-◌, ◌*◌, ◌≤◌, ◌<◌, min}
use mathlib.Core.Path.{◌≡◌, refl, sym, ap, ◌∙◌}
use mathlib.Core.List.{List, [], ◌∷◌}
use native.Mathlib.Omega.{arith}
use native.Mathlib.Numerals.{add-one}
use lib.ListN.{length}
use borrow.Author.Tests.{eq-eqb, ne_eqb}
use Rattle.base.specs.Bytes.{over}
use Rattle.base.specs.Pick.{pick}
use Rattle.base.specs.Rows.{rows}
use Rattle.base.specs.SumsBelow.{sum_below}
use Rattle.format.specs.Header.{grains_of, directory_entries_of}
use Rattle.format.specs.Entries.{entry_at}
use Rattle.format.specs.Mend.{good_entry, other_entry, change_of, changes}
use Rattle.format.specs.Judged.{Placed, Sided}
use Rattle.format.specs.declared.Header.{Header}
use Rattle.format.specs.declared.Entry.{Entry}
use Rattle.format.specs.declared.Entry.TheVariants.{Sector}
use Rattle.format.proofs.Geometry.{grains_few}
use Rattle.format.proofs.Mendable.{sided_placed, sided_two}
use Rattle.format.proofs.PlacesKept.{primary_room, table_room, copies_room, copy_room, grains_left}
use Rattle.framing.specs.WordsPut.{WordsPut}
use Rattle.framing.proofs.WordsLaws.{put_none, put_length}
use Rattle.changes.specs.TableChanges.{AlikeUpTo, differing, differing_in, differing_at, change_if, change_in}
use Rattle.changes.specs.TableChanges.{changes_in, changes_at}
use Rattle.changes.proofs.ByTable.{changes_by_table, words_all}
use Rattle.changes.proofs.RunsPut.{run_room, run_more, row_room, row_more, run_passed}

-- ---- one change
module _ (grain old new at : ℕ) (d : List ℕ) where
  pub change_none : old ≡ new → WordsPut (change_if grain old new) d at d at
  unfolding pick
  change_none e = rw (eq-eqb old new e) (put_none d at)

  module _ (n : old ≡ new → ⊥) where
    pub change_room : at + length (change_if grain old new) ≤ length d → at + 3 ≤ length d
    unfolding pick
    change_room room = rw (ne_eqb old new n) at room

    pub change_put : {x : List ℕ} {r : ℕ} → WordsPut (grain ∷ old ∷ new ∷ []) d at x r
        → WordsPut (change_if grain old new) d at x r
    unfolding pick
    change_put p = rw (ne_eqb old new n) p

-- ---- the entries of a block
module _ (s : List ℕ) (first t u from at : ℕ) (d : List ℕ) {x : List ℕ} {next : ℕ} (m j : ℕ)
    (room : at + length (rows m (λ i. change_in s first t u (from + i))) ≤ length d)
    (w : WordsPut (rows j (λ i. change_in s first t u (from + i))) d at x next) (l : j < m) {old new : ℕ}
    (eo : old ≡ entry_at s u (from + j)) (en : new ≡ entry_at s t (from + j)) where
  pub block_room : next + length (change_if (first + (from + j)) old new) ≤ length x
  block_room = rw (eo, en) (row_room at (λ i. change_in s first t u (from + i)) d m j room w l)

  module _ {y : List ℕ} {r : ℕ} (q : WordsPut (change_if (first + (from + j)) old new) x next y r) where
    pub block_long : length y ≡ length x
    block_long = put_length block_room q

    pub block_more : WordsPut (rows (j + 1) (λ i. change_in s first t u (from + i))) d at y r
    block_more = row_more at (λ i. change_in s first t u (from + i)) d m j room w l (rw (eo, en) at q)

-- ---- two tables
alike_nothing : (s : List ℕ) (first t u k n r : ℕ) → AlikeUpTo s t u k n r → (i : ℕ) → k ≤ i → i < r
    → change_in s first t u i ≡ []
unfolding pick
alike_nothing s first t u k n r p i l b = rw (eq-eqb (entry_at s u i) (entry_at s t i) (sym (p.same i l b)))

-- the blocks of two tables
module _ (s : List ℕ) (first t u at : ℕ) (d : List ℕ) {x : List ℕ} {next : ℕ} (n k : ℕ)
    (room : at + length (rows n (change_in s first t u)) ≤ length d)
    (w : WordsPut (rows k (change_in s first t u)) d at x next) {from m : ℕ} (p : AlikeUpTo s t u k n from)
    (e : m ≡ min 16 (n - from)) where
  passed : WordsPut (rows from (change_in s first t u)) d at x next
  passed = run_passed at (change_in s first t u) d k from w p.low (alike_nothing s first t u k n from p)

  fits : from + m ≤ n
  fits = omega (arith, p.high)

  pub blocks_room : next + length (rows m (λ j. change_in s first t u (from + j))) ≤ length x
  blocks_room = run_room at (change_in s first t u) d n from room passed m fits

  module _ {y : List ℕ} {r : ℕ} (q : WordsPut (rows m (λ j. change_in s first t u (from + j))) x next y r) where
    pub blocks_long : length y ≡ length x
    blocks_long = put_length blocks_room q

    pub blocks_more : WordsPut (rows (from + m) (change_in s first t u)) d at y r
    blocks_more = run_more at (change_in s first t u) d n from room passed m fits q

module _ (s : List ℕ) (n : ℕ) (a b : Entry) (t u : ℕ) (e : a ≡ Sector t) (q : b ≡ Sector u) where
  pub tables_differ_lem : {r : ℕ} → r ≡ differing s t u n → r ≡ differing_in s n a b
  unfolding differing_in
  tables_differ_lem p = rw (e, q) p

  module _ (first at : ℕ) (d : List ℕ) where
    pub tables_room : at + length (changes_in s first n a b) ≤ length d
        → at + length (rows n (change_in s first t u)) ≤ length d
    unfolding change_of
    tables_room room = rw (e, q) at room

    pub tables_put : {x : List ℕ} {r : ℕ} → WordsPut (rows n (change_in s first t u)) d at x r
        → WordsPut (changes_in s first n a b) d at x r
    unfolding change_of
    tables_put p = rw (e, q) p

-- ---- directory entry d
module _ (s : List ℕ) (g : Header) (z : Sided s g) (all d : ℕ) (ea : all ≡ grains_of g) (l : d < directory_entries_of g) where
  p : Placed s g
  p = sided_placed s g z

  pub first_below : d * g.entries_per_table < all
  first_below = grains_left s g p (directory_entries_of g) refl all ea d l

  pub all_few : all ≤ 0x80000000
  all_few = omega (arith, grains_few g.capacity g.grain_size p.sound.sizes.low, p.sound.sizes.small)

  pub good_in : 512 * g.directory + 4 * d + 4 ≤ length s
  good_in = omega (arith, primary_room s g p (directory_entries_of g) refl)

  pub other_in : 512 * g.redundant + 4 * d + 4 ≤ length s
  other_in = omega (arith, copies_room s g p (directory_entries_of g) refl (sided_two s g z))

  module _ (n : ℕ) (en : n ≡ min g.entries_per_table (all - d * g.entries_per_table)) where
    pub used_few : n ≤ 4096
    used_few = omega (arith, p.sound.few)

    pub good_table_in : {a : Entry} → a ≡ good_entry s g d → (t : ℕ) → a ≡ Sector t → 512 * t + 4 * n ≤ length s
    good_table_in e t q = omega (arith, table_room s g p (directory_entries_of g) refl d t l (sym e ∙ q))

    pub other_table_in : {b : Entry} → b ≡ other_entry s g d → (u : ℕ) → b ≡ Sector u → 512 * u + 4 * n ≤ length s
    other_table_in e u q =
        omega (arith, copy_room s g p (directory_entries_of g) refl (sided_two s g z) d u l (sym e ∙ q))

    -- ---- its tables
    module _ {a b : Entry} (ia : a ≡ good_entry s g d) (ib : b ≡ other_entry s g d) where
      pub entry_counted : {r : ℕ} → (r ≡ differing_in s n a b) × (r ≤ n) → (r ≡ differing_at s g d) × (r ≤ 4096)
      entry_counted q = (rw (← ea, ← en, ← ia, ← ib) q.0, omega (arith, q.1, used_few))

      pub entry_room : (at room : ℕ) → at + length (changes_at s g d) ≤ room
          → at + length (changes_in s (d * g.entries_per_table) n a b) ≤ room
      entry_room at room fits = rw (en, ia, ib, ea) fits

      pub entry_put : {x y : List ℕ} {at r : ℕ} → WordsPut (changes_in s (d * g.entries_per_table) n a b) x at y r
          → WordsPut (changes_at s g d) x at y r
      entry_put q = rw (← ea, ← en, ← ia, ← ib) q

-- ---- all entries
module _ (s : List ℕ) (g : Header) (z : Sided s g) where
  pub counted_more : (count r d : ℕ) → count ≡ sum_below (differing_at s g) d → r ≡ differing_at s g d
      → count + r ≡ sum_below (differing_at s g) (d + 1)
  unfolding sum_below
  counted_more count r d w q = rw (add-one, w, q)

  pub counted_all : (count d n : ℕ) → n ≡ directory_entries_of g → count ≡ sum_below (differing_at s g) d → d ≤ n → n ≤ d
      → 3 * count ≡ length (changes s g)
  counted_all count d n e w l h =
      let q : d ≡ directory_entries_of g = omega arith in
      ap (λ (k : ℕ). 3 * k) (rw q at w) ∙ words_all s g (sided_placed s g z).sound

  pub listed_room : (room : ℕ) → length (changes s g) ≤ room → (n : ℕ) → n ≡ directory_entries_of g
      → 0 + length (rows n (changes_at s g)) ≤ room
  listed_room room fits n e = rw (e, ← changes_by_table s g (sided_placed s g z).sound) (omega arith)

  pub listed_all : {d x : List ℕ} {next : ℕ} (n k : ℕ) → n ≡ directory_entries_of g
      → WordsPut (rows k (changes_at s g)) d 0 x next → k ≤ n → n ≤ k → x ≡ over d 0 (changes s g)
  listed_all n k e w l h =
      let q : directory_entries_of g ≡ k = omega arith in
      rw (changes_by_table s g (sided_placed s g z).sound, q) w.words
