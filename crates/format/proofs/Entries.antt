-- Which entries a grain uses, for any number of entries per table.
use Prim.Native.Nat.{ℕ, zero, suc, ◌+◌, ◌*◌, ◌/◌, ◌%◌, ◌≤◌, ◌<◌}
use mathlib.Core.Path.{◌≡◌, refl, sym, ◌∙◌}
use mathlib.Core.List.{List}
use mathlib.Core.Bool.{Bool, true, false}
use mathlib.Core.Logic.{⊎_elim}
use native.Mathlib.Omega.{arith}
use native.Mathlib.Nat.{mul-add-div_right, mul-add-mod_self_right, div-eq_of_lt, mod-eq_of_lt, add-zero}
use lib.Dec.{ltb}
use borrow.Author.Tests.{lt-ltb}
use Rattle.base.specs.Pick.{pick}
use Rattle.base.proofs.Steps.{or_no, lt_or_ge, pick_both}
use Rattle.format.specs.declared.Entry.{Entry}
use Rattle.format.specs.declared.Entry.TheVariants.{Absent, Zero, Sector}
use Rattle.format.specs.Entries.{in_table, meaning_at, entry_of_grain, marker_size, grain_sectors, any_below}

-- grain base + k, where base is d tables on, uses directory entry d and table entry k
pub entry_of : (s : List ℕ) (one_is_zero : Bool) (per_table directory base d k : ℕ) → base ≡ d * per_table → k < per_table
    → entry_of_grain s one_is_zero per_table directory (base + k) ≡ in_table s one_is_zero k
    (meaning_at s one_is_zero directory d)
unfolding entry_of_grain
entry_of s one_is_zero per_table directory base d k eq lt =
    let q : (d * per_table + k) / per_table ≡ d = mul-add-div_right (omega arith) d k ∙ rw (div-eq_of_lt lt, add-zero) in
    let r : (d * per_table + k) % per_table ≡ k = mul-add-mod_self_right d per_table k ∙ mod-eq_of_lt lt in
    rw (eq, q, r)

-- ---- what is said of an entry differs only where it names a sector
pub by_entry : {A : Type 0} (p q : Entry → A) → p Absent ≡ q Absent → p Zero ≡ q Zero → (d : Entry)
    → ((e : ℕ) → d ≡ Sector e → p (Sector e) ≡ q (Sector e)) → p d ≡ q d
by_entry p q a z Absent f = a
by_entry p q a z Zero f = z
by_entry p q a z (Sector e) f = f e refl

-- ---- what a grain takes
-- of an image only a packed grain's size counts
pub sectors_same : (s t : List ℕ) (packed : Bool) (size e : ℕ) → (packed ≡ true → marker_size s e ≡ marker_size t e)
    → grain_sectors s packed size e ≡ grain_sectors t packed size e
unfolding grain_sectors
sectors_same s t packed size e f = pick_both ◌≡◌ packed _ _ _ _ (λ p. rw (f p)) (λ n. refl)

-- it is a sector at least, whatever a marker there would say
pub some_sectors : (s : List ℕ) (packed : Bool) (size e : ℕ) → 1 ≤ size → 1 ≤ grain_sectors s packed size e
unfolding grain_sectors pick
some_sectors s true size e one = omega arith
some_sectors s false size e one = one

module _ (packed : Bool) (size e : ℕ) (one : 1 ≤ size) where
  -- so a grain whose sector is not below f runs past it
  pub grain_past_lem : (s : List ℕ) (f : ℕ) → f ≤ e → ltb f (e + grain_sectors s packed size e) ≡ true
  grain_past_lem s f l = lt-ltb f (e + grain_sectors s packed size e) (omega (arith, some_sectors s packed size e one))

  pub past_same : (s t : List ℕ) (f : ℕ) → (e < f → packed ≡ true → marker_size s e ≡ marker_size t e)
      → ltb f (e + grain_sectors s packed size e) ≡ ltb f (e + grain_sectors t packed size e)
  past_same s t f same =
      ⊎_elim (λ l. rw (sectors_same s t packed size e (same l)))
      (λ l. grain_past_lem s f l ∙ sym (grain_past_lem t f l))
      (lt_or_ge e f)

-- ---- a rule that holds of no number below n
pub some_no : (broken : ℕ → Bool) (n : ℕ) → any_below broken n ≡ false → (k : ℕ) → k < n → broken k ≡ false
unfolding any_below
some_no broken zero e k h = absurd (omega arith)
some_no broken (suc n) e k h =
    let r = or_no (any_below broken n) (broken n) e in
    ⊎_elim (λ l. some_no broken n r.0 k l) (λ g. let q : k ≡ n = omega arith in rw q r.1) (lt_or_ge k n)

pub no_some : (broken : ℕ → Bool) (n : ℕ) → ((k : ℕ) → k < n → broken k ≡ false) → any_below broken n ≡ false
unfolding any_below
no_some broken zero h = refl
no_some broken (suc n) h = rw (no_some broken n (λ k l. h k (omega arith)), h n (omega arith))

-- only numbers below n count
pub some_same : (p q : ℕ → Bool) (n : ℕ) → ((k : ℕ) → k < n → p k ≡ q k) → any_below p n ≡ any_below q n
unfolding any_below
some_same p q zero h = refl
some_same p q (suc n) h = rw (some_same p q n (λ k l. h k (omega arith)), h n (omega arith))
