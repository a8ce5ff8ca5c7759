-- What stands where after a part was written; two parts that lie apart may be written in either order.
use Prim.Native.Nat.{ℕ, ◌+◌, ◌-◌, ◌≤◌, ◌<◌}
use mathlib.Core.Path.{◌≡◌, sym, ap, ◌∙◌}
use mathlib.Core.Logic.{⊎_elim}
use mathlib.Core.List.{List, ◌++◌}
use native.Mathlib.Omega.{arith}
use lib.ListN.{length, get_or, take, drop, length-append, get_or-append}
use lib.Seq.{ext_get_or, get_or-take, get_or-drop, get_or-append-add, length-take-le}
use Rattle.base.specs.Bytes.{over}
use Rattle.base.proofs.Over.{over_length}
use Rattle.base.proofs.Steps.{lt_or_ge}

-- ---- byte by byte: what stands below, in and past a part that was written
module _ (d : List ℕ) (at : ℕ) (vs : List ℕ) (h : at + length vs ≤ length d) where
  front_length : length (take at d ++ vs) ≡ at + length vs
  front_length = rw (length-append, length-take-le at d (omega arith))

  pub over_below : (i : ℕ) → i < at → get_or (over d at vs) i 0 ≡ get_or d i 0
  unfolding over
  over_below i l =
      get_or-append (take at d ++ vs) _ 0 i (omega (arith, front_length))
      ∙ get_or-append (take at d) vs 0 i (omega (arith, length-take-le at d (omega arith))) ∙ get_or-take at d i 0 l

  pub over_within : (i : ℕ) → i < length vs → get_or (over d at vs) (at + i) 0 ≡ get_or vs i 0
  unfolding over
  over_within i l =
      get_or-append (take at d ++ vs) _ 0 (at + i) (omega (arith, front_length))
      ∙ (let e : at + i ≡ length (take at d) + i = omega (arith, length-take-le at d (omega arith)) in rw e
      (get_or-append-add (take at d) vs i 0))

  pub over_past : (i : ℕ) → at + length vs ≤ i → get_or (over d at vs) i 0 ≡ get_or d i 0
  unfolding over
  over_past i l =
      let n = at + length vs in
      let s : i ≡ length (take at d ++ vs) + (i - n) = omega (arith, front_length) in
      let e : n + (i - n) ≡ i = omega arith in
      ap (λ (k : ℕ). get_or (take at d ++ vs ++ drop n d) k 0) s ∙ get_or-append-add (take at d ++ vs) (drop n d) (i - n) 0 ∙
      get_or-drop n d (i - n) 0
      ∙ ap (λ (k : ℕ). get_or d k 0) e

  -- and back
  pub over_of : (x : List ℕ) → length x ≡ length d → ((i : ℕ) → i < at → get_or x i 0 ≡ get_or d i 0)
      → ((i : ℕ) → i < length vs → get_or x (at + i) 0 ≡ get_or vs i 0)
      → ((i : ℕ) → at + length vs ≤ i → get_or x i 0 ≡ get_or d i 0) → x ≡ over d at vs
  over_of x e low mid high =
      ext_get_or 0 x (over d at vs) (e ∙ sym (over_length d at vs h))
      (λ i l. ⊎_elim (λ b. low i b ∙ sym (over_below i b))
      (λ b. ⊎_elim
      (λ inn. let q : at + (i - at) ≡ i = omega arith in rw q at
      (mid (i - at) (omega arith) ∙ sym (over_within (i - at) (omega arith))))
      (λ out. high i out ∙ sym (over_past i out)) (lt_or_ge i (at + length vs))) (lt_or_ge i at))

pub over_swap : (d vs ws : List ℕ) (a b : ℕ) → a + length vs ≤ b → b + length ws ≤ length d
    → over (over d b ws) a vs ≡ over (over d a vs) b ws
over_swap d vs ws a b h l =
    let k : a + length vs ≤ length d = omega arith in
    let ka : a + length vs ≤ length (over d b ws) = omega (arith, over_length d b ws l) in
    let kb : b + length ws ≤ length (over d a vs) = omega (arith, over_length d a vs k) in
    over_of (over d a vs) b ws kb (over (over d b ws) a vs)
    (over_length (over d b ws) a vs ka ∙ over_length d b ws l ∙ sym (over_length d a vs k))
    (λ i low. ⊎_elim
    (λ before. over_below (over d b ws) a vs ka i before ∙ over_below d b ws l i low ∙ sym (over_below d a vs k i before))
    (λ after. ⊎_elim
    (λ inn. let q : a + (i - a) ≡ i = omega arith in rw q at
    (over_within (over d b ws) a vs ka (i - a) (omega arith) ∙ sym (over_within d a vs k (i - a) (omega arith))))
    (λ out. over_past (over d b ws) a vs ka i out ∙ over_below d b ws l i low ∙ sym (over_past d a vs k i out))
    (lt_or_ge i (a + length vs))) (lt_or_ge i a))
    (λ i inn. over_past (over d b ws) a vs ka (b + i) (omega arith) ∙ over_within d b ws l i inn)
    (λ i out.
    over_past (over d b ws) a vs ka i (omega arith) ∙ over_past d b ws l i out ∙ sym (over_past d a vs k i (omega arith)))
