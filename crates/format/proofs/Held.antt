-- What sectors the areas of a list hold: one area alone, one of many, two of many.
use Prim.Native.Nat.{ℕ, zero, suc, ◌+◌, ◌≤◌, ◌<◌}
use mathlib.Core.Path.{◌≡◌}
use mathlib.Core.List.{List, [], ◌∷◌}
use mathlib.Core.Bool.{Bool, true}
use mathlib.Core.Logic.{⊎_elim}
use native.Mathlib.Omega.{arith}
use Rattle.base.specs.Pick.{pick}
use Rattle.base.specs.Rows.{rows}
use Rattle.base.proofs.Steps.{lt_or_ge}
use Rattle.format.specs.Areas.{Area, area, if_there, named, holders}
use Rattle.format.specs.declared.Entry.{Entry}
use Rattle.format.specs.declared.Entry.TheVariants.{Sector}
use Rattle.format.proofs.Areas.{holds_in, holders_append}

pub held_one : (a : Area) (x : ℕ) → a.first ≤ x → x < a.first + a.sector_count → holders (a ∷ []) x ≡ 1
unfolding holders
held_one a x l b = rw (holds_in a x l b)

pub held_there : (there : Bool) (a : Area) (x : ℕ) → there ≡ true → a.first ≤ x → x < a.first + a.sector_count
    → holders (if_there there a) x ≡ 1
unfolding if_there pick
held_there there a x t l b = rw t (held_one a x l b)

module _ (f : ℕ → List Area) (x : ℕ) where
  pub held_row : (n k : ℕ) → k < n → holders (f k) x ≤ holders (rows n f) x
  unfolding rows
  held_row zero k l = absurd (omega arith)
  held_row (suc n) k l =
      let all = holders_append (rows n f) (f n) x in
      let last : holders (f n) x ≤ holders (rows (suc n) f) x = omega arith in
      ⊎_elim (λ b. omega (arith, held_row n k b)) (λ b. let q : k ≡ n = omega arith in rw q last) (lt_or_ge k n)

  -- two rows hold a sector twice
  pub held_rows : (n j k : ℕ) → j < k → k < n → holders (f j) x + holders (f k) x ≤ holders (rows n f) x
  unfolding rows
  held_rows zero j k b l = absurd (omega arith)
  held_rows (suc n) j k b l =
      let all = holders_append (rows n f) (f n) x in
      ⊎_elim (λ c. omega (arith, held_rows n j k b c))
      (λ c.
      let q : k ≡ n = omega arith in
      rw q (omega (arith, held_row n j (omega arith)))) (lt_or_ge k n)

pub held_named : (sectors : ℕ → ℕ) (d : Entry) (e x : ℕ) → d ≡ Sector e → e ≤ x → x < e + sectors e
    → holders (named sectors d) x ≡ 1
unfolding named holders
held_named sectors d e x q l b = rw (q, holds_in (area e (sectors e)) x l b)
