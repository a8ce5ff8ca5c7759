-- Areas in a row: each begins at or after the end of the one before it, so no sector lies in two.
use Prim.Native.Nat.{ℕ, zero, suc, ◌+◌, ◌≤◌, ◌<◌}
use mathlib.Core.Path.{◌≡◌, refl}
use mathlib.Core.List.{List, [], ◌∷◌, ◌++◌}
use mathlib.Core.Bool.{false}
use mathlib.Core.Logic.{⊎_elim}
use native.Mathlib.Omega.{arith}
use Rattle.base.specs.Rows.{rows}
use Rattle.format.specs.Areas.{Area, area, runs_past, holders, Apart}
use Rattle.format.proofs.Areas.{holds_under, holds_or}
use Rattle.format.proofs.Inside.{in_one, none_in}

-- from sector a on, and up to b
unfoldable pub Between : ℕ → List Area → ℕ → Type 0
Between a [] b = a ≤ b
Between a (y ∷ l) b = (a ≤ y.first) × Between (y.first + y.sector_count) l b

-- ---- rows put together
-- it may begin sooner and end later
pub between_wide : (l : List Area) (a b d e : ℕ) → d ≤ a → b ≤ e → Between a l b → Between d l e
unfolding Between
between_wide [] a b d e h i k = omega arith
between_wide (y ∷ l) a b d e h i k = (omega (arith, k.0), between_wide l _ b _ e (omega arith) i k.1)

pub between_append : (l k : List Area) (a b d : ℕ) → Between a l b → Between b k d → Between a (l ++ k) d
unfolding Between
between_append [] k a b d p q = between_wide k b d a d p (omega arith) q
between_append (y ∷ l) k a b d p q = (p.0, between_append l k _ b d p.1 q)

-- the i-th from p i up to p (i + 1)
pub between_rows : (n : ℕ) (f : ℕ → List Area) (p : ℕ → ℕ) → ((i : ℕ) → i < n → Between (p i) (f i) (p (suc i)))
    → Between (p 0) (rows n f) (p n)
unfolding Between rows
between_rows zero f p h = omega arith
between_rows (suc n) f p h =
    between_append (rows n f) (f n) (p 0) (p n) (p (suc n)) (between_rows n f p (λ i b. h i (omega arith))) (h n (omega arith))

pub between_one : (a first count : ℕ) → a ≤ first → Between a (area first count ∷ []) (first + count)
unfolding Between
between_one a first count h = (h, omega arith)

-- ---- what it gives
between_last : (l : List Area) (a b : ℕ) → Between a l b → a ≤ b
unfolding Between
between_last [] a b h = h
between_last (y ∷ l) a b h = omega (arith, h.0, between_last l _ b h.1)

-- none runs past the end
pub between_in : (l : List Area) (a b : ℕ) → Between a l b → runs_past b l ≡ false
unfolding Between
between_in [] a b h = none_in b
between_in (y ∷ l) a b h = in_one b y l (between_last l _ b h.1) (between_in l _ b h.1)

between_under : (l : List Area) (a b x : ℕ) → Between a l b → x < a → holders l x ≡ 0
unfolding Between holders
between_under [] a b x h u = refl
between_under (y ∷ l) a b x h u =
    rw (holds_under y x (omega (arith, h.0)), between_under l _ b x h.1 (omega (arith, h.0)))

-- no sector lies in two
pub between_apart : (l : List Area) (a b : ℕ) → Between a l b → Apart l
unfolding Between holders
between_apart [] a b h x = omega arith
between_apart (y ∷ l) a b h x =
    ⊎_elim (λ i. omega (arith, i.2, between_under l _ b x h.1 i.1)) (λ n. omega (arith, n, between_apart l _ b h.1 x))
    (holds_or y x)
