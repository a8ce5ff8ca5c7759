-- Laws of rows: some rows of many, lengths, what stands where, equal rows.
use Prim.Native.Nat.{ℕ, zero, suc, ◌+◌, ◌*◌, ◌<◌}
use mathlib.Core.Path.{◌≡◌, refl, sym, ◌∙◌}
use mathlib.Core.List.{List, [], ◌∷◌, ◌++◌, append_assoc, append-nil}
use mathlib.Core.Logic.{⊎_elim}
use native.Mathlib.Omega.{arith}
use native.Mathlib.Nat.{suc-mul, zero-mul, mul-one, add-zero, add-suc}
use lib.ListN.{length, get_or, length-append}
use Rattle.base.proofs.Steps.{lt_or_ge}
use Rattle.base.specs.Numbers.{le_bytes}
use Rattle.base.specs.Rows.{rows, first_of, all_of, tabulate, entry_bytes}
use Rattle.base.proofs.Stands.{Stands, stands_left, stands_right, stands_at}
use Rattle.base.proofs.Numbers.{le_length}

pub rows_same : {A : Type 0} (n : ℕ) (f h : ℕ → List A) → ((i : ℕ) → i < n → f i ≡ h i) → rows n f ≡ rows n h
unfolding rows
rows_same zero f h e = refl
rows_same (suc n) f h e = rw (rows_same n f h (λ i b. e i (omega arith)), e n (omega arith))

-- the first m rows, and the n after them
pub rows_split : {A : Type 0} (m n : ℕ) (f : ℕ → List A) → rows (m + n) f ≡ rows m f ++ rows n (λ k. f (m + k))
unfolding rows
rows_split m zero f = rw add-zero (sym (append-nil _))
rows_split m (suc n) f = rw (add-suc, rows_split m n f, append_assoc)

-- one row
pub row_alone : {A : Type 0} (f : ℕ → List A) (k : ℕ) → rows 1 (λ i. f (k + i)) ≡ f k
unfolding rows
row_alone f k = rw add-zero

-- rows with nothing in them
pub rows_none : {A : Type 0} (n : ℕ) (f : ℕ → List A) → ((i : ℕ) → i < n → f i ≡ []) → rows n f ≡ []
unfolding rows
rows_none zero f h = refl
rows_none (suc n) f h = rw (rows_none n f (λ i l. h i (omega arith)), h n (omega arith))

-- rows of one length
pub rows_length : {A : Type 0} (n w : ℕ) (f : ℕ → List A) → ((i : ℕ) → i < n → length (f i) ≡ w) → length (rows n f) ≡ n * w
unfolding rows
rows_length zero w f e = sym (zero-mul w)
rows_length (suc n) w f e = rw (length-append, rows_length n w f (λ i b. e i (omega arith)), e n (omega arith), suc-mul)

-- row i stands after the rows before it
pub rows_at : (n : ℕ) (f : ℕ → List ℕ) (i : ℕ) → i < n → Stands (rows n f) (length (rows i f)) (f i)
unfolding rows
rows_at zero f i b = absurd (omega arith)
rows_at (suc n) f i b =
    ⊎_elim (λ l. stands_left (rows n f) (f n) (rows_at n f i l))
    (λ g. let e : n ≡ i = omega arith in rw (← e) (stands_right (rows n f) (f n))) (lt_or_ge i n)

-- rows of one length: row i stands at i times it
pub row_at_lem : (n w : ℕ) (f : ℕ → List ℕ) → ((i : ℕ) → i < n → length (f i) ≡ w) → (i : ℕ) → i < n
    → Stands (rows n f) (i * w) (f i)
row_at_lem n w f e i b = stands_at (i * w) (rows_length i w f (λ j l. e j (omega arith))) (rows_at n f i b)

-- part i of a list of parts stands after those before it
pub part_at : (parts : List (List ℕ)) (i : ℕ) → i < length parts
    → Stands (all_of parts) (length (first_of parts i)) (get_or parts i [])
part_at parts i b = rows_at (length parts) (λ k. get_or parts k []) i b

pub tabulate_length : (n : ℕ) (f : ℕ → ℕ) → length (tabulate n f) ≡ n
tabulate_length n f = rows_length n 1 _ (λ i b. refl) ∙ mul-one n

pub tabulate_at : (n : ℕ) (f : ℕ → ℕ) (i : ℕ) → i < n → get_or (tabulate n f) i 0 ≡ f i
tabulate_at n f i b = simp (mul-one, add-zero) at ((row_at_lem n 1 (λ k. f k ∷ []) (λ k l. refl) i b).same 0 (omega arith))

pub entries_length : (n : ℕ) (e : ℕ → ℕ) → length (entry_bytes n e) ≡ n * 4
entries_length n e = rows_length n 4 _ (λ i b. le_length 4 (e i))

-- entry k stands at 4 * k
pub entry_at_lem : (n : ℕ) (e : ℕ → ℕ) (k : ℕ) → k < n → Stands (entry_bytes n e) (k * 4) (le_bytes 4 (e k))
entry_at_lem n e k b = row_at_lem n 4 _ (λ i l. le_length 4 (e i)) k b
