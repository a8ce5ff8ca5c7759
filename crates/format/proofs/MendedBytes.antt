-- The changed image byte by byte: as long as the image, the good side's entries in use in the other side's tables, and all else
-- as it was.
use Prim.Native.Nat.{ℕ, zero, suc, ◌+◌, ◌*◌, ◌≤◌, ◌<◌}
use mathlib.Core.Path.{◌≡◌, refl, ◌∙◌}
use mathlib.Core.List.{List}
use mathlib.Core.Logic.{◌⊎◌, ⊎_elim}
use native.Mathlib.Omega.{arith}
use lib.ListN.{length, get_or, drop}
use lib.Seq.{get_or-take, get_or-drop}
use Rattle.base.proofs.Over.{over_length}
use Rattle.base.proofs.OverApart.{over_below, over_within, over_past}
use Rattle.base.proofs.Steps.{lt_or_ge}
use Rattle.format.specs.Geometry.{bytes_at}
use Rattle.format.specs.Header.{directory_entries_of}
use Rattle.format.specs.Entries.{entries_in_use}
use Rattle.format.specs.Mend.{good_entry, other_entry, over_table, mended_below}
use Rattle.format.specs.Judged.{Placed}
use Rattle.format.specs.declared.Header.{Header}
use Rattle.format.specs.declared.Entry.{Entry}
use Rattle.format.specs.declared.Entry.TheVariants.{Absent, Zero, Sector}
use Rattle.format.proofs.BytesAt.{part_long}
use Rattle.format.proofs.PlacesKept.{table_room, copy_room}

-- byte i stands outside the first n entries of the table that an entry names
abbrev pub Outside : ℕ → Entry → ℕ → Type 0
Outside n b i = (u : ℕ) → b ≡ Sector u → (i < 512 * u) ⊎ (512 * u + 4 * n ≤ i)

-- ---- one table over another
module _ (s m : List ℕ) (n : ℕ) where
  -- a table that an entry names has room for n entries
  abbrev Room : Entry → Type 0
  Room a = (t : ℕ) → a ≡ Sector t → 512 * t + 4 * n ≤ length s

  over_table_long : (a b : Entry) → length m ≡ length s → Room a → Room b → length (over_table s n a b m) ≡ length s
  unfolding over_table
  over_table_long (Sector t) (Sector u) e p q =
      over_length m (512 * u) (bytes_at s (512 * t) (4 * n))
      (omega (arith, part_long s (512 * t) (4 * n) (p t refl), q u refl)) ∙ e
  over_table_long (Sector t) Absent e p q = e
  over_table_long (Sector t) Zero e p q = e
  over_table_long Absent b e p q = e
  over_table_long Zero b e p q = e

  over_table_outside : (a b : Entry) → length m ≡ length s → Room a → Room b → (i : ℕ) → Outside n b i
      → get_or (over_table s n a b m) i 0 ≡ get_or m i 0
  unfolding over_table
  over_table_outside (Sector t) (Sector u) e p q i o =
      let vs = bytes_at s (512 * t) (4 * n) in
      let long : length vs ≡ 4 * n = part_long s (512 * t) (4 * n) (p t refl) in
      let room : 512 * u + length vs ≤ length m = omega (arith, q u refl) in
      ⊎_elim (λ l. over_below m (512 * u) vs room i l) (λ l. over_past m (512 * u) vs room i (omega arith)) (o u refl)
  over_table_outside (Sector t) Absent e p q i o = refl
  over_table_outside (Sector t) Zero e p q i o = refl
  over_table_outside Absent b e p q i o = refl
  over_table_outside Zero b e p q i o = refl

  over_table_inside : (a b : Entry) → length m ≡ length s → Room a → Room b → (t u : ℕ) → a ≡ Sector t → b ≡ Sector u → (j : ℕ)
      → j < 4 * n → get_or (over_table s n a b m) (512 * u + j) 0 ≡ get_or s (512 * t + j) 0
  unfolding over_table
  over_table_inside a b e p q t u is names j l =
      let vs = bytes_at s (512 * t) (4 * n) in
      let long : length vs ≡ 4 * n = part_long s (512 * t) (4 * n) (p t is) in
      rw (is, names)
      (over_within m (512 * u) vs (omega (arith, q u names)) j (omega arith)
      ∙ get_or-take (4 * n) (drop (512 * t) s) j 0 l
      ∙ get_or-drop (512 * t) s j 0)

-- ---- the tables of the first d directory entries
module _ (s : List ℕ) (g : Header) (p : Placed s g) (two : g.redundant ≡ 0 → ⊥) where
  pub good_room : (d : ℕ) → d < directory_entries_of g → (t : ℕ) → good_entry s g d ≡ Sector t
      → 512 * t + 4 * entries_in_use g d
      ≤ length s
  good_room d l t e = omega (arith, table_room s g p (directory_entries_of g) refl d t l e)

  pub other_room : (d : ℕ) → d < directory_entries_of g → (u : ℕ) → other_entry s g d ≡ Sector u
      → 512 * u + 4 * entries_in_use g d
      ≤ length s
  other_room d l u e = omega (arith, copy_room s g p (directory_entries_of g) refl two d u l e)

  pub mended_long : (d : ℕ) → d ≤ directory_entries_of g → length (mended_below s g d) ≡ length s
  unfolding mended_below
  mended_long zero l = refl
  mended_long (suc d) l =
      over_table_long s (mended_below s g d) (entries_in_use g d) _ _ (mended_long d (omega arith)) (good_room d (omega arith))
      (other_room d (omega arith))

  -- byte i stands outside the entries in use of the other side's tables of the first d entries
  abbrev pub Spared : ℕ → ℕ → Type 0
  Spared d i = (k : ℕ) → k < d → Outside (entries_in_use g k) (other_entry s g k) i

  pub mended_spared : (d : ℕ) → d ≤ directory_entries_of g → (i : ℕ) → Spared d i
      → get_or (mended_below s g d) i 0 ≡ get_or s i 0
  unfolding mended_below
  mended_spared zero l i o = refl
  mended_spared (suc d) l i o =
      over_table_outside s (mended_below s g d) (entries_in_use g d) _ _ (mended_long d (omega arith))
      (good_room d (omega arith))
      (other_room d (omega arith)) i (o d (omega arith))
      ∙ mended_spared d (omega arith) i (λ k b. o k (omega arith))

  -- and a byte in those of entry k, in none of another
  module _ (k t u : ℕ) (is : good_entry s g k ≡ Sector t) (names : other_entry s g k ≡ Sector u) (j : ℕ)
      (inside : j < 4 * entries_in_use g k) where
    pub mended_moved : (d : ℕ) → d ≤ directory_entries_of g → k < d
        → ((i : ℕ) → i < d → (i ≡ k → ⊥) → Outside (entries_in_use g i) (other_entry s g i) (512 * u + j))
        → get_or (mended_below s g d) (512 * u + j) 0 ≡ get_or s (512 * t + j) 0
    unfolding mended_below
    mended_moved zero l b o = absurd (omega arith)
    mended_moved (suc d) l b o =
        ⊎_elim
        (λ c.
        over_table_outside s (mended_below s g d) (entries_in_use g d) _ _ (mended_long d (omega arith))
        (good_room d (omega arith)) (other_room d (omega arith)) (512 * u + j) (o d (omega arith) (λ q. omega arith))
        ∙ mended_moved d (omega arith) c (λ i e. o i (omega arith)))
        (λ c.
        let q : k ≡ d = omega arith in
        over_table_inside s (mended_below s g d) (entries_in_use g d) _ _ (mended_long d (omega arith))
        (good_room d (omega arith)) (other_room d (omega arith)) t u (rw (← q) is) (rw (← q) names) j (rw (← q) inside))
        (lt_or_ge k d)
