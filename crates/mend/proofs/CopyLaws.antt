-- Tables copied in one image, each premise as the code gives it.
use Prim.Native.Nat.{ℕ, ◌+◌, ◌-◌, ◌*◌, ◌≤◌, ◌<◌, min, max}
use mathlib.Core.Path.{◌≡◌, refl, sym, ap, ◌∙◌}
use mathlib.Core.List.{List}
use mathlib.Core.Bool.{false}
use mathlib.Core.Logic.{◌⊎◌, inl, inr, ⊎_elim}
use native.Mathlib.Omega.{arith}
use native.Mathlib.Numerals.{add-one}
use lib.ListN.{length, get_or, take, drop, set, length-drop}
use lib.Seq.{get_or-drop, length-take-le}
use Rattle.base.specs.Bytes.{over}
use Rattle.base.proofs.Over.{copy_more}
use Rattle.base.proofs.OverApart.{over_below, over_past}
use Rattle.base.proofs.SameBytes.{within, part_same}
use Rattle.base.proofs.Steps.{lt_or_ge}
use Rattle.format.specs.Geometry.{bytes_at}
use Rattle.format.specs.Header.{grains_of, directory_entries_of}
use Rattle.format.specs.Entries.{entries_in_use}
use Rattle.format.specs.Areas.{named, meet}
use Rattle.format.specs.Mend.{good_entry, other_entry, over_table, mended_below, mended, areas_kept_apart}
use Rattle.format.specs.Judged.{Placed, Sided}
use Rattle.format.specs.declared.Header.{Header}
use Rattle.format.specs.declared.Entry.{Entry}
use Rattle.format.specs.declared.Entry.TheVariants.{Absent, Zero, Sector}
use Rattle.format.proofs.Areas.{holders_append, meet_apart}
use Rattle.format.proofs.Geometry.{grains_few}
use Rattle.format.proofs.Held.{held_row, held_named}
use Rattle.format.proofs.Mendable.{sided_placed, sided_two}
use Rattle.format.proofs.MendedApart.{Kept, mended_kept}
use Rattle.format.proofs.MendedRead.{good_entry_lem, other_entry_lem, good_bytes}
use Rattle.format.proofs.Places.{redundant_tables_lem}
use Rattle.format.proofs.PlacesKept.{primary_room, table_room, copies_room, copy_room, grains_left}
use Rattle.mend.specs.MendTold.{TwoTables, TwoEntries}

-- ---- byte i of one table over another: what is read was not written
module _ (s : List ℕ) (n t u : ℕ) (two : TwoTables s n t u) (m : List ℕ) (i : ℕ)
    (is : m ≡ over s (512 * u) (take i (drop (512 * t) s))) (l : i < 4 * n) where
  long : length (take i (drop (512 * t) s)) ≡ i
  long = length-take-le i (drop (512 * t) s) (rw length-drop (omega (arith, two.good)))

  unwritten : get_or m (512 * t + i) 0 ≡ get_or (drop (512 * t) s) i 0
  unwritten =
      let vs = take i (drop (512 * t) s) in
      let room : 512 * u + length vs ≤ length s = omega (arith, long, two.other) in
      rw is
      (⊎_elim (λ a. over_past s (512 * u) vs room (512 * t + i) (omega (arith, long, two.apart a)))
      (λ a. over_below s (512 * u) vs room (512 * t + i) (omega arith)) (lt_or_ge (512 * u) (512 * t + 4 * n))
      ∙ sym (get_or-drop (512 * t) s i 0))

  pub byte_copied : set m (512 * u + i) (get_or m (512 * t + i) 0) ≡ over s (512 * u) (take (i + 1) (drop (512 * t) s))
  byte_copied =
      ap (set m (512 * u + i)) unwritten
      ∙ copy_more s m (512 * u) i (drop (512 * t) s) (4 * n) is l (rw length-drop (omega (arith, two.good)))
      (omega (arith, two.other))

-- ---- two tables that entries name
module _ (s : List ℕ) (n : ℕ) (a b : Entry) (t u : ℕ) (e : a ≡ Sector t) (q : b ≡ Sector u) where
  pub tables_of_lem : ((t u : ℕ) → a ≡ Sector t → b ≡ Sector u → TwoTables s n t u) → TwoTables s n t u
  tables_of_lem f = f t u e q

  pub tables_copied : {x : List ℕ} → x ≡ over s (512 * u) (bytes_at s (512 * t) (4 * n)) → x ≡ over_table s n a b s
  unfolding over_table
  tables_copied p = rw (e, q) p

-- of directory entry d
module _ (m : List ℕ) (g : Header) (all d : ℕ) {n : ℕ}
    (en : n ≡ min g.entries_per_table (all - d * g.entries_per_table))
    {a b : Entry} (ia : a ≡ good_entry m g d) (ib : b ≡ other_entry m g d) where
  pub entry_tables : TwoEntries m g all d → (t u : ℕ) → a ≡ Sector t → b ≡ Sector u → TwoTables m n t u
  entry_tables z t u e f = rw en (z.tables t u (sym ia ∙ e) (sym ib ∙ f))

  pub entry_written : {x : List ℕ} → x ≡ over_table m n a b m
      → x ≡ over_table m (min g.entries_per_table (all - d * g.entries_per_table)) (good_entry m g d) (other_entry m g d) m
  entry_written p = rw (← en, ← ia, ← ib) p

-- ---- directory entry d of the image as far as it was changed
module _ (s : List ℕ) (g : Header) (z : Sided s g) (apart : meet (areas_kept_apart s g) ≡ false) (all d : ℕ)
    (ea : all ≡ grains_of g) (l : d < directory_entries_of g) where
  p : Placed s g
  p = sided_placed s g z

  rest : Kept s g (mended_below s g d)
  rest = mended_kept s g p (sided_two s g z) d (omega arith)

  good_same : good_entry (mended_below s g d) g d ≡ good_entry s g d
  good_same = good_entry_lem s g (mended_below s g d) p (sided_two s g z) (meet_apart _ apart) rest d l

  other_same : other_entry (mended_below s g d) g d ≡ other_entry s g d
  other_same = other_entry_lem s g (mended_below s g d) p (sided_two s g z) (meet_apart _ apart) rest d l

  -- a sector of both tables would lie in two areas
  not_both : (t u x : ℕ) → good_entry s g d ≡ Sector t → other_entry s g d ≡ Sector u → t ≤ x → x < t + g.table_sectors
      → u ≤ x → x < u + g.table_sectors → ⊥
  not_both t u x e f a b h k =
      let sectors : ℕ → ℕ = λ y. g.table_sectors in
      let own = held_row (λ j. named sectors (good_entry s g j)) x (directory_entries_of g) d l in
      let row = held_row (λ j. named sectors (other_entry s g j)) x (directory_entries_of g) d l in
      let copies = rw (← redundant_tables_lem s g (sided_two s g z)) at row in
      omega (
        arith,
        own,
        copies,
        held_named sectors (good_entry s g d) t x e a b,
        held_named sectors (other_entry s g d) u x f h k,
        simp holders_append at (meet_apart (areas_kept_apart s g) apart x),
      )

  tables_away : (t u : ℕ) → good_entry s g d ≡ Sector t → other_entry s g d ≡ Sector u
      → (t + g.table_sectors ≤ u) ⊎ (u + g.table_sectors ≤ t)
  tables_away t u e f =
      let some : 1 ≤ g.table_sectors = omega (arith, p.sound.some, p.sound.table) in
      ⊎_elim (λ a. inl a)
      (λ a.
      ⊎_elim (λ b. inr b)
      (λ b. absurd (not_both t u (max t u) e f (omega arith) (omega arith) (omega arith) (omega arith)))
      (le_or_gt (u + g.table_sectors) t))
      (le_or_gt (t + g.table_sectors) u)
    where
      le_or_gt : (a b : ℕ) → (a ≤ b) ⊎ (b < a)
      le_or_gt a b = ⊎_elim (λ c. inr c) (λ c. inl c) (lt_or_ge b a)

  pub entries_of_lem : (m : List ℕ) → m ≡ mended_below s g d → TwoEntries m g all d
  entries_of_lem m is = rw is (record {
    few = omega (arith, grains_few g.capacity g.grain_size p.sound.sizes.low, p.sound.sizes.small);
    first = grains_left s g p (directory_entries_of g) refl all ea d l;
    good = omega (arith, rest.long, primary_room s g p (directory_entries_of g) refl);
    other = omega (arith, rest.long, copies_room s g p (directory_entries_of g) refl (sided_two s g z));
    tables = λ t u e f.
        let good = sym good_same ∙ e in
        let other = sym other_same ∙ f in
        record {
          good = omega (arith, rest.long, table_room s g p (directory_entries_of g) refl d t l good);
          other = omega (arith, rest.long, copy_room s g p (directory_entries_of g) refl (sided_two s g z) d u l other);
          apart = λ before.
              ⊎_elim (λ a. absurd (omega (arith, a, p.sound.table))) (λ a. omega (arith, a, p.sound.table))
              (tables_away t u good other);
        };
  })

  -- what is read of the good table is as it was lent
  same_table : (a b : Entry) → a ≡ good_entry s g d → over_table (mended_below s g d) (entries_in_use g d) a b
      (mended_below s g d)
      ≡ over_table s (entries_in_use g d) a b (mended_below s g d)
  unfolding over_table
  same_table (Sector t) (Sector u) e =
      let m = mended_below s g d in
      let bytes = good_bytes s g m p (sided_two s g z) (meet_apart _ apart) rest d l t (sym e) in
      ap (over m (512 * u))
      (part_same m s (512 * t) (4 * entries_in_use g d) rest.long
      (within m s (512 * t) _ (512 * t) (4 * entries_in_use g d) bytes (omega arith) (omega arith)))
  same_table (Sector t) Absent e = refl
  same_table (Sector t) Zero e = refl
  same_table Absent b e = refl
  same_table Zero b e = refl

  pub entry_copied : (m x : List ℕ) → m ≡ mended_below s g d
      → x ≡ over_table m (min g.entries_per_table (all - d * g.entries_per_table)) (good_entry m g d) (other_entry m g d) m
      → x ≡ mended_below s g (d + 1)
  unfolding mended_below
  entry_copied m x is q =
      rw add-one
      ((rw (is, ea, good_same, other_same) at q) ∙ same_table (good_entry s g d) (other_entry s g d) refl)

-- ---- the loop's ends
module _ (s : List ℕ) (g : Header) where
  pub none_copied : s ≡ mended_below s g 0
  unfolding mended_below
  none_copied = refl

  pub all_copied : (m : List ℕ) (d n : ℕ) → m ≡ mended_below s g d → n ≡ directory_entries_of g → d ≤ n → n ≤ d → m ≡ mended s g
  all_copied m d n is e l h = let q : d ≡ directory_entries_of g = omega arith in rw q at is

  pub copied_long : Sided s g → (m : List ℕ) (d : ℕ) → m ≡ mended_below s g d → d ≤ directory_entries_of g → length m ≡ length s
  copied_long z m d is l =
      ap length is ∙ (mended_kept s g (sided_placed s g z) (sided_two s g z) d l).long
