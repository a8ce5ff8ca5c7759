-- Lists put together from rows.
use Rattle.std.specs.Prelude.{ℕ, zero, suc, List, [], ◌∷◌, ◌++◌, length, get_or}
use Rattle.base.specs.Numbers.{le_bytes}

-- the n lists f 0, f 1, .. one after the other
unfoldable pub rows : {A : Type 0} → ℕ → (ℕ → List A) → List A
rows zero f = []
rows (suc n) f = rows n f ++ f n

-- the lists of a list, one after the other: the first i of them, and all
abbrev pub first_of : List (List ℕ) → ℕ → List ℕ
first_of parts i = rows i (λ k. get_or parts k [])

abbrev pub all_of : List (List ℕ) → List ℕ
all_of parts = first_of parts (length parts)

-- the n numbers f 0, f 1, ..
abbrev pub tabulate : ℕ → (ℕ → ℕ) → List ℕ
tabulate n f = rows n (λ i. f i ∷ [])

-- n entries of four bytes, entry k of them e k
abbrev pub entry_bytes : ℕ → (ℕ → ℕ) → List ℕ
entry_bytes n e = rows n (λ k. le_bytes 4 (e k))
