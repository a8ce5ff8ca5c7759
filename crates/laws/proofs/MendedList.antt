-- The list of changes (request A7) has exactly the entries that differ, three words each, in ascending order of the grains.
use Prim.Native.Nat.{ℕ, zero, suc, ◌+◌, ◌*◌, ◌/◌, ◌%◌, ◌≤◌, ◌<◌}
use mathlib.Core.Path.{◌≡◌, refl, sym, ap, ◌∙◌}
use mathlib.Core.List.{List, [], ◌∷◌, ◌++◌}
use mathlib.Core.Bool.{true, false}
use mathlib.Core.Logic.{◌⊎◌, inl, inr, ⊎_elim}
use native.Mathlib.Omega.{arith}
use native.Mathlib.Nat.{add-zero, zero-add}
use lib.ListN.{length, get_or, length-append, get_or-append}
use lib.Seq.{get_or-append-add}
use lib.Dec.{eqb}
use borrow.Author.Tests.{eq-eqb, ne_eqb, eqb-false}
use Rattle.base.specs.Pick.{pick}
use Rattle.base.specs.Rows.{rows}
use Rattle.base.proofs.Rows.{rows_at, rows_none}
use Rattle.base.proofs.Over.{over_length}
use Rattle.base.proofs.OverApart.{over_within, over_past}
use Rattle.base.proofs.Steps.{true_or_false, lt_or_ge}
use Rattle.format.specs.Header.{grains_of, header_of}
use Rattle.format.specs.Entries.{entry_at}
use Rattle.format.specs.Mend.{from_good, good_entry, other_entry, change_of, change_at, changes, mend, mended_list}
use Rattle.format.specs.declared.Header.{Header}
use Rattle.format.specs.declared.Side.{Side}
use Rattle.format.specs.declared.Entry.{Entry}
use Rattle.format.specs.declared.Entry.TheVariants.{Absent, Zero, Sector}
use Rattle.format.proofs.Picked.{pick_then}
use Rattle.laws.specs.Mended.{Differing, TellsAt}
use Rattle.laws.proofs.MendedImage.{told, list_is}
use Rattle.std.specs.Prelude.{Ok}

-- three words, the first of which is the row's number
record Change (f : ℕ → List ℕ) (x : ℕ) : Type 0 where
  pub old : ℕ
  pub new : ℕ
  pub is : f x ≡ x ∷ old ∷ new ∷ []

module _ (f : ℕ → List ℕ) (each : (x : ℕ) → (f x ≡ []) ⊎ (Change f x)) where
  threes : (n : ℕ) → (c : ℕ) × (length (rows n f) ≡ 3 * c)
  unfolding rows
  threes zero = (0, refl)
  threes (suc n) =
      let r = threes n in
      ⊎_elim (λ e. (r.0, length-append (rows n f) (f n) ∙ omega (arith, r.1, ap length e)))
      (λ c. (r.0 + 1, length-append (rows n f) (f n) ∙ omega (arith, r.1, ap length c.is))) (each n)

  -- each change is told
  change_told : (n x : ℕ) → x < n → (c : Change f x)
      → (i : ℕ) × (TellsAt (rows n f) i x c.old c.new)
  change_told n x l c =
      let r = threes x in
      let stands = rw (c.is, r.1) at (rows_at n f x l) in (
        r.0,
        record {
          inside = stands.inside;
          first = rw add-zero at (stands.same 0 (omega arith));
          second = stands.same 1 (omega arith);
          third = stands.same 2 (omega arith);
        },
      )

  -- a word past the first n rows is the first of row n's
  last_told : (n i : ℕ) (c : Change f n) → length (rows n f) ≤ 3 * i → 3 * i < length (rows n f ++ f n)
      → (3 * i ≡ length (rows n f)) × (get_or (rows n f ++ f n) (3 * i) 0 ≡ n)
  last_told n i c b l =
      let long = length-append (rows n f) (f n) in
      let at : 3 * i ≡ length (rows n f) + 0 = omega (arith, (threes n).1, ap length c.is) in
      (omega arith, rw at (get_or-append-add (rows n f) (f n) 0 0 ∙ ap (λ (v : List ℕ). get_or v 0 0) c.is))

  no_row : (n i : ℕ) → f n ≡ [] → length (rows n f) ≤ 3 * i → 3 * i < length (rows n f ++ f n) → ⊥
  no_row n i e b l = omega (arith, length-append (rows n f) (f n), ap length e)

  -- what is told is a change
  told_change : (n i : ℕ) → 3 * i < length (rows n f)
      → (x : ℕ) × (x < n) × (c : Change f x) × (get_or (rows n f) (3 * i) 0 ≡ x)
  unfolding rows
  told_change zero i l = absurd (omega arith)
  told_change (suc n) i l =
      ⊎_elim
      (λ b.
      let r = told_change n i b in
      (r.0, omega (arith, r.1), r.2, get_or-append (rows n f) (f n) 0 (3 * i) b ∙ r.3))
      (λ b.
      ⊎_elim (λ e. absurd (no_row n i e b l))
      (λ (c : Change f n). (n, omega arith, c, (last_told n i c b l).1))
      (each n))
      (lt_or_ge (3 * i) (length (rows n f)))

  -- in ascending order
  told_ascending : (n i j : ℕ) → i < j → 3 * j < length (rows n f)
      → get_or (rows n f) (3 * i) 0 < get_or (rows n f) (3 * j) 0
  unfolding rows
  told_ascending zero i j h l = absurd (omega arith)
  told_ascending (suc n) i j h l =
      ⊎_elim
      (λ b.
      let first = get_or-append (rows n f) (f n) 0 (3 * i) (omega arith) in
      let second = get_or-append (rows n f) (f n) 0 (3 * j) b in
      omega (arith, first, second, told_ascending n i j h b))
      (λ b.
      ⊎_elim (λ e. absurd (no_row n j e b l))
      (λ (c : Change f n).
      let last = last_told n j c b l in
      let below : 3 * i < length (rows n f) = omega (arith, last.0) in
      let low = told_change n i below in
      omega (arith, low.1, low.3, get_or-append (rows n f) (f n) 0 (3 * i) below, last.1))
      (each n))
      (lt_or_ge (3 * j) (length (rows n f)))

  -- so the i-th that is told is told whole
  told_whole : (n i : ℕ) → 3 * i < length (rows n f)
      → (x : ℕ) × (x < n) × (c : Change f x) × (TellsAt (rows n f) i x c.old c.new)
  told_whole n i l =
      let c = told_change n i l in
      let at = change_told n c.0 c.1 c.2 in
      let here : at.0 ≡ i =
      ⊎_elim
      (λ b. absurd (omega (arith, told_ascending n at.0 i b l, at.1.first, c.3)))
      (λ b.
      ⊎_elim
      (λ d. absurd (omega (arith, told_ascending n i at.0 d (omega (arith, at.1.inside)), at.1.first, c.3)))
      (λ d. omega arith)
      (lt_or_ge i at.0))
      (lt_or_ge at.0 i)
      in (c.0, c.1, c.2, rw here at at.1)

-- ---- the changes of an image
module _ (s : List ℕ) (g : Header) where
  abbrev entry_of : ℕ → ℕ → ℕ
  entry_of t x = entry_at s t (x % g.entries_per_table)

  -- the words of an entry that differs
  differing_change : (x : ℕ) (c : Differing s g x) → change_at s g x ≡ x ∷ entry_of c.u x ∷ entry_of c.t x ∷ []
  unfolding change_of pick
  differing_change x c = rw (c.good, c.other, ne_eqb (entry_of c.u x) (entry_of c.t x) c.differ)

  no_change : (x k : ℕ) (a b : Entry)
      → ((t u : ℕ) → a ≡ Sector t → b ≡ Sector u → eqb (entry_at s u k) (entry_at s t k) ≡ true) → change_of s x k a b ≡ []
  unfolding change_of
  no_change x k (Sector t) (Sector u) same = pick_then _ _ _ (same t u refl refl)
  no_change x k (Sector t) Absent same = refl
  no_change x k (Sector t) Zero same = refl
  no_change x k Absent b same = refl
  no_change x k Zero b same = refl

  -- two tables whose entries are told apart, or none
  told_apart : (x k : ℕ) (a b : Entry)
      → (change_of s x k a b ≡ [])
      ⊎ ((t : ℕ) × (u : ℕ) × (a ≡ Sector t) × (b ≡ Sector u) × (eqb (entry_at s u k) (entry_at s t k) ≡ false))
  unfolding change_of
  told_apart x k (Sector t) (Sector u) =
      ⊎_elim (λ e. inl (pick_then _ _ _ e)) (λ e. inr (t, u, refl, refl, e))
      (true_or_false (eqb (entry_at s u k) (entry_at s t k)))
  told_apart x k (Sector t) Absent = inl refl
  told_apart x k (Sector t) Zero = inl refl
  told_apart x k Absent b = inl refl
  told_apart x k Zero b = inl refl

  differs_or_not : (x : ℕ) → (change_at s g x ≡ []) ⊎ (Differing s g x)
  differs_or_not x =
      ⊎_elim (λ e. inl e)
      (λ c.
      inr (record { t = c.0; u = c.1; good = c.2; other = c.3; differ = eqb-false _ _ c.4 }))
      (told_apart x (x % g.entries_per_table) (good_entry s g (x / g.entries_per_table))
      (other_entry s g (x / g.entries_per_table)))

  abbrev change_of_lem : (x : ℕ) → Differing s g x → Change (change_at s g) x
  change_of_lem x c = record { old = _; new = _; is = differing_change x c }

  each_change : (x : ℕ) → (change_at s g x ≡ []) ⊎ (Change (change_at s g) x)
  each_change x = ⊎_elim (λ e. inl e) (λ c. inr (change_of_lem x c)) (differs_or_not x)

  -- an entry in use that differs is told, with the old entry and the new one
  pub differing_listed : (x : ℕ) → x < grains_of g → (c : Differing s g x)
      → (i : ℕ) × (TellsAt (changes s g) i x (entry_of c.u x) (entry_of c.t x))
  differing_listed x l c = change_told (change_at s g) each_change (grains_of g) x l (change_of_lem x c)

  -- what is told is one
  pub listed_differing : (i : ℕ) → 3 * i < length (changes s g)
      → (x : ℕ) × (x < grains_of g) × (c : Differing s g x)
      × (TellsAt (changes s g) i x (entry_of c.u x) (entry_of c.t x))
  listed_differing i l =
      let w = told_whole (change_at s g) each_change (grains_of g) i l in
      ⊎_elim (λ e. absurd (omega (arith, ap length (sym e ∙ w.2.is))))
      (λ c.
      let same = sym w.2.is ∙ differing_change w.0 c in
      let old : w.2.old ≡ entry_of c.u w.0 = ap (λ (v : List ℕ). get_or v 1 0) same in
      let new : w.2.new ≡ entry_of c.t w.0 = ap (λ (v : List ℕ). get_or v 2 0) same in
      (w.0, w.1, c, rw (← old, ← new) w.3))
      (differs_or_not w.0)

  pub listed_ascending : (i j : ℕ) → i < j → 3 * j < length (changes s g)
      → get_or (changes s g) (3 * i) 0 < get_or (changes s g) (3 * j) 0
  listed_ascending = told_ascending (change_at s g) each_change (grains_of g)

  -- where none differs there is no word
  pub none_listed : ((x : ℕ) → x < grains_of g → (t u : ℕ) → good_entry s g (x / g.entries_per_table) ≡ Sector t
      → other_entry s g (x / g.entries_per_table) ≡ Sector u → entry_of u x ≡ entry_of t x) → changes s g ≡ []
  none_listed same =
      rows_none (grains_of g) (change_at s g)
      (λ x l. no_change x _ _ _ (λ t u a b. eq-eqb _ _ (same x l t u a b)))

  -- three words are a change
  changes_threes : (c : ℕ) × (length (changes s g) ≡ 3 * c)
  changes_threes = threes (change_at s g) each_change (grains_of g)

-- ---- the lent list after an answer
module _ (s : List ℕ) (side : Side) (list : List ℕ) (n : ℕ) (e : mend s side (length list) ≡ Ok n) where
  abbrev words : List ℕ
  words = changes s (from_good side (header_of s))

  -- the count is the number of the changes, and there was room for them
  pub changes_counted : length words ≡ 3 * n
  changes_counted =
      let c = changes_threes s (from_good side (header_of s)) in omega (arith, c.1, (told s side list n e).count)

  room : 0 + length words ≤ length list
  room = omega (arith, (told s side list n e).fits)

  pub changes_written : (i : ℕ) → i < 3 * n → get_or (mended_list s side list) i 0 ≡ get_or words i 0
  changes_written i l =
      rw (list_is s side list n e) (rw zero-add at (over_within list 0 words room i (omega (arith, changes_counted))))

  -- words past them are as lent
  pub words_kept : (i : ℕ) → 3 * n ≤ i → get_or (mended_list s side list) i 0 ≡ get_or list i 0
  words_kept i l =
      rw (list_is s side list n e) (over_past list 0 words room i (omega (arith, changes_counted)))

  pub list_as_long : length (mended_list s side list) ≡ length list
  list_as_long = rw (list_is s side list n e) (over_length list 0 words room)
