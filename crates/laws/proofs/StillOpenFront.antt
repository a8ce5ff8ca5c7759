-- KDMV without a footer, of any bytes: in sector 0 nothing is read but the header, so another byte 72 changes its number alone.
use Prim.Native.Nat.{ℕ, ◌≤◌}
use mathlib.Core.Path.{◌≡◌, sym, ◌∙◌}
use mathlib.Core.List.{List}
use mathlib.Core.Bool.{Bool, true, false, true≢false, ◌&&◌}
use native.Mathlib.Omega.{arith}
use lib.Dec.{eqb}
use borrow.Author.Tests.{eqb-false}
use Rattle.base.specs.Strings.{same_at}
use Rattle.format.specs.Kdmv.{kdmv_magic, kdmv_fields, at_end}
use Rattle.format.specs.Entries.{entry_at, meaning, in_table, entry_of_grain}
use Rattle.format.specs.declared.Header.{Header}
use Rattle.format.specs.declared.Entry.{Entry}
use Rattle.format.specs.declared.Entry.TheVariants.{Absent, Zero, Sector}
use Rattle.format.proofs.Picked.{passed}
use Rattle.format.proofs.HeaderSound.{sound_of}
use Rattle.laws.specs.StillOpen.{SameBut}
use Rattle.laws.proofs.StillOpenUsed.{SameElse}
use Rattle.laws.proofs.StillOpenHeader.{kdmv_with_lem}
use Rattle.laws.proofs.StillOpenRead.{ClearTables, ClearImage, clear_used}

-- ---- no entry names sector 0
names_some : (one_is_zero : Bool) (e u : ℕ) → meaning one_is_zero e ≡ Sector u → 1 ≤ u
unfolding meaning
names_some one_is_zero e u q =
    let a = passed (eqb e 0) Absent _ (Sector u) (λ w. let z : ◌≡◌ {A = ℕ} 0 1 = cc in omega arith) q in
    let b = passed (one_is_zero && eqb e 1) Zero _ (Sector u) (λ w. let z : ◌≡◌ {A = ℕ} 0 1 = cc in omega arith) a.1 in
    let own = b.1 in
    let same : e ≡ u = cc in
    omega (arith, eqb-false e 0 a.0)

table_names_some : (s : List ℕ) (one_is_zero : Bool) (k : ℕ) (d : Entry) (e : ℕ) → in_table s one_is_zero k d ≡ Sector e → 1 ≤ e
unfolding in_table
table_names_some s one_is_zero k Absent e q = let z : ◌≡◌ {A = ℕ} 0 1 = cc in absurd (omega arith)
table_names_some s one_is_zero k Zero e q = let z : ◌≡◌ {A = ℕ} 0 1 = cc in absurd (omega arith)
table_names_some s one_is_zero k (Sector u) e q = names_some one_is_zero (entry_at s u k) e q

-- ---- KDMV without a footer, of any bytes: nothing is read in sector 0 but the header
module _ (s : List ℕ) (h : Header) where
  abbrev Front : ℕ → Type 0
  Front x = x ≡ 0

  tables_past_front : (directory : ℕ) → (directory ≡ 0 → ⊥) → ClearTables Front s h directory
  tables_past_front directory some = record {
    own = λ x l b z. some (omega arith);
    tables = λ d u l e x m b z. let one = names_some h.one_is_zero _ u e in omega arith;
  }

  past_front : (h.directory ≡ 0 → ⊥) → ClearImage Front s h
  unfolding entry_of_grain
  past_front some = record {
    primary = tables_past_front h.directory some;
    copies = tables_past_front h.redundant;
    markers = λ g e l q x m b z. let one = table_names_some s _ _ _ e q in omega arith;
  }

module _ (s t : List ℕ) (both : SameBut s t 72 1) (kdmv : same_at s 0 kdmv_magic ≡ true) (none : at_end (kdmv_fields s) ≡ false)
  where
    pub else_kdmv : SameElse s t
    else_kdmv = record {
      long = both.long;
      number = _;
      judged =
          kdmv_with_lem s t both.long (λ i l b. both.before i (omega arith)) (λ i l b. both.after i (omega arith)) kdmv
          (λ e. absurd (true≢false (sym e ∙ none)));
      used = λ h e some.
          clear_used s t both.long (λ x. x ≡ 0) (λ i n. both.after i (omega arith)) h (sound_of s h e)
          (past_front s h some);
    }
