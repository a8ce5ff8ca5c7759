-- The row of an image: grains by what their entries mean are grains by kind.
use Prim.Native.Nat.{ℕ, zero, suc, ◌+◌, ◌≤◌}
use mathlib.Core.Path.{◌≡◌, refl, sym, ap, ◌∙◌}
use mathlib.Core.List.{List}
use mathlib.Core.Bool.{Bool, true, false}
use native.Mathlib.Omega.{arith}
use native.Mathlib.Nat.{add-zero}
use lib.Dec.{eqb}
use Rattle.base.specs.Pick.{pick}
use Rattle.format.specs.Header.{header_of, grains_of}
use Rattle.format.specs.Entries.{grain_entry}
use Rattle.format.specs.Check.{check}
use Rattle.format.specs.Answers.{number, place}
use Rattle.format.specs.Survey.{entry_kind, count_of, row_from, row_of, add_row}
use Rattle.format.specs.declared.Header.{Header}
use Rattle.format.specs.declared.Entry.{Entry}
use Rattle.format.specs.declared.Entry.TheVariants.{Absent, Zero, Sector}
use Rattle.format.specs.declared.Refusal.{Refusal}
use Rattle.format.specs.declared.Row.{Row}
use Rattle.format.specs.declared.Totals.{Totals}
use Rattle.kinds.specs.declared.Kinds.{Kinds}
use Rattle.kinds.specs.Counting.{none, with_many, with_entries, all_of}
use Rattle.kinds.proofs.Counted.{entries_all}
use Rattle.format.proofs.Geometry.{grains_few}
use Rattle.survey.specs.Small.{SmallRow, SmallTotals}
use Rattle.accept.specs.AcceptedHeader.{accepted_header, Checked}
use Rattle.std.specs.Prelude.{Result, Ok, Err}
use Rattle.format.specs.declared.Shape.{Shape}
use Rattle.format.specs.AnswerParts.{accepted_as}

-- ---- a number that goes up by one at each entry of a kind
module _ (packed : Bool) (v : ℕ) (f : ℕ → Entry) where
  abbrev kinds : ℕ → ℕ
  kinds g = entry_kind packed (f g)

  counts : (field : Kinds → ℕ) → field none ≡ 0
      → ((k : Kinds) (d : Entry) → field (with_many k d 1) ≡ field k + pick (eqb (entry_kind packed d) v) 1 0)
      → (n : ℕ) → field (with_entries none f n) ≡ count_of kinds v n
  unfolding with_entries count_of
  counts field start up zero = start
  counts field start up (suc n) = omega (arith, up (with_entries none f n) (f n), counts field start up n)

  counts_none : ((d : Entry) → eqb (entry_kind packed d) v ≡ false) → (n : ℕ) → count_of kinds v n ≡ 0
  unfolding count_of pick
  counts_none never zero = refl
  counts_none never (suc n) = rw (never (f n), counts_none never n)

-- ---- kind by kind
up_absent : (packed : Bool) (k : Kinds) (d : Entry)
    → (with_many k d 1).absent ≡ k.absent + pick (eqb (entry_kind packed d) 0) 1 0
unfolding with_many entry_kind pick
up_absent packed k Absent = refl
up_absent packed k Zero = sym (add-zero _)
up_absent true k (Sector e) = sym (add-zero _)
up_absent false k (Sector e) = sym (add-zero _)

up_zero : (packed : Bool) (k : Kinds) (d : Entry) → (with_many k d 1).zero ≡ k.zero + pick (eqb (entry_kind packed d) 1) 1 0
unfolding with_many entry_kind pick
up_zero packed k Absent = sym (add-zero _)
up_zero packed k Zero = refl
up_zero true k (Sector e) = sym (add-zero _)
up_zero false k (Sector e) = sym (add-zero _)

up_stored : (k : Kinds) (d : Entry) → (with_many k d 1).named ≡ k.named + pick (eqb (entry_kind false d) 2) 1 0
unfolding with_many entry_kind pick
up_stored k Absent = sym (add-zero _)
up_stored k Zero = sym (add-zero _)
up_stored k (Sector e) = refl

up_packed : (k : Kinds) (d : Entry) → (with_many k d 1).named ≡ k.named + pick (eqb (entry_kind true d) 3) 1 0
unfolding with_many entry_kind pick
up_packed k Absent = sym (add-zero _)
up_packed k Zero = sym (add-zero _)
up_packed k (Sector e) = refl

not_packed : (d : Entry) → eqb (entry_kind false d) 3 ≡ false
unfolding entry_kind pick
not_packed Absent = refl
not_packed Zero = refl
not_packed (Sector e) = refl

not_stored : (d : Entry) → eqb (entry_kind true d) 2 ≡ false
unfolding entry_kind pick
not_stored Absent = refl
not_stored Zero = refl
not_stored (Sector e) = refl

-- ---- the row, where the header says packed or not
module _ (s : List ℕ) (h : Header) (k : Kinds) (e : k ≡ with_entries none (grain_entry s h) (grains_of h)) where
  pub row_packed : h.packed ≡ true
      → record { stored = 0; zero = k.zero; absent = k.absent; packed = k.named; number = 0; place = 0 }
      ≡ row_from s h (accepted_as 0 0)
  unfolding row_from
  row_packed p =
      let n = grains_of h in
      let f = grain_entry s h in
      rw (
        p,
        e,
        counts true 1 f (λ k. k.zero) refl (up_zero true) n,
        counts true 0 f (λ k. k.absent) refl (up_absent true) n,
        counts true 3 f (λ k. k.named) refl up_packed n,
        counts_none true 2 f not_stored n,
      )

  pub row_stored : h.packed ≡ false
      → record { stored = k.named; zero = k.zero; absent = k.absent; packed = 0; number = 0; place = 0 }
      ≡ row_from s h (accepted_as 0 0)
  unfolding row_from
  row_stored p =
      let n = grains_of h in
      let f = grain_entry s h in
      rw (
        p,
        e,
        counts false 1 f (λ k. k.zero) refl (up_zero false) n,
        counts false 0 f (λ k. k.absent) refl (up_absent false) n,
        counts false 2 f (λ k. k.named) refl up_stored n,
        counts_none false 3 f not_packed n,
      )

  -- each number is at most that of all grains
  small_kinds : Checked s h → (k.absent ≤ 0x80000000) × (k.zero ≤ 0x80000000) × (k.named ≤ 0x80000000)
  small_kinds c =
      let z = c.filed.placed.sound.sizes in
      let all : all_of k ≡ 0 + grains_of h = ap all_of e ∙ entries_all none (grain_entry s h) (grains_of h) in
      let few = grains_few h.capacity h.grain_size z.low in
      (omega (arith, z.small), omega (arith, z.small), omega (arith, z.small))

  pub small_packed : Checked s h → SmallRow
      (record { stored = 0; zero = k.zero; absent = k.absent; packed = k.named; number = 0; place = 0 })
  small_packed c =
      let m = small_kinds c in record { stored_few = omega arith; zero_few = m.1; absent_few = m.0; packed_few = m.2 }

  pub small_stored : Checked s h → SmallRow
      (record { stored = k.named; zero = k.zero; absent = k.absent; packed = 0; number = 0; place = 0 })
  small_stored c =
      let m = small_kinds c in record { stored_few = m.2; zero_few = m.1; absent_few = m.0; packed_few = omega arith }

-- a refused image adds nothing
pub small_refused : (r : Row) (n p : ℕ) → r ≡ record { stored = 0; zero = 0; absent = 0; packed = 0; number = n; place = p }
    → SmallRow r
small_refused r n p e = rw e (record {
  stored_few = omega arith;
  zero_few = omega arith;
  absent_few = omega arith;
  packed_few = omega arith;
})

pub small_more : (t : Totals) (r : Row) (k : ℕ) → SmallRow r → SmallTotals k t → SmallTotals (k + 1) (add_row t r)
unfolding add_row
small_more t r k row all = record {
  stored_few = omega (arith, row.stored_few, all.stored_few);
  zero_few = omega (arith, row.zero_few, all.zero_few);
  absent_few = omega (arith, row.absent_few, all.absent_few);
  packed_few = omega (arith, row.packed_few, all.packed_few);
}

-- ---- at the arms of a match on the header of an accepted image
module _ (s : List ℕ) (a : Result Header Refusal) (e : a ≡ accepted_header (check s) (header_of s)) (r : Row) where
  refused_from : (c : Result Shape Refusal) (refusal : Refusal) → accepted_header c (header_of s) ≡ Err refusal
      → c ≡ Err refusal
  unfolding accepted_header
  refused_from (Err other) refusal q = cc
  refused_from (Ok sizes) refusal q = let n : ◌≡◌ {A = ℕ} 0 1 = cc in absurd (omega arith)

  pub row_refused : (refusal : Refusal) → a ≡ Err refusal
      → r ≡ record { stored = 0; zero = 0; absent = 0; packed = 0; number = number refusal; place = place refusal }
      → r ≡ row_of s
  unfolding row_from
  row_refused refusal q p = rw (refused_from (check s) refusal (sym e ∙ q)) p

  known_from : (c : Result Shape Refusal) (h : Header) → accepted_header c (header_of s) ≡ Ok h
      → row_from s h (accepted_as 0 0) ≡ row_from s (header_of s) c
  unfolding accepted_header row_from
  known_from (Err other) h q = let n : ◌≡◌ {A = ℕ} 0 1 = cc in absurd (omega arith)
  known_from (Ok sizes) h q = let is : header_of s ≡ h = cc in rw is

  pub row_accepted : (h : Header) → a ≡ Ok h → r ≡ row_from s h (accepted_as 0 0) → r ≡ row_of s
  row_accepted h q p = p ∙ known_from (check s) h (sym e ∙ q)
