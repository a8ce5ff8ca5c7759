-- Laws of bytes written over a part of a list, in the forms in which the code yields and wants them.
use Prim.Native.Nat.{ℕ, zero, suc, ◌+◌, ◌-◌, ◌≤◌, ◌<◌}
use mathlib.Core.Path.{◌≡◌, refl, sym, ap, ◌∙◌}
use mathlib.Core.List.{List, [], ◌∷◌, ◌++◌, append_assoc, append-nil}
use native.Mathlib.Omega.{arith}
use native.Mathlib.Nat.{add-zero, zero-add, add_assoc}
use native.Mathlib.Numerals.{add-one}
use lib.ListN.{length, get_or, take, drop, set, length-append, length-drop, length-replicate, replicate-append-replicate}
use lib.ListN.{take-append-drop, drop_of_length-le}
use lib.Seq.{sets, sets-eq, take-suc, take_at, drop-drop, set_split, length-take-le, take_all, drop-append-add}
use borrow.Rule.Slice.PartMut.{mid_of, put_mid}
use Rattle.base.specs.Bytes.{over, zeros}
use Rattle.base.proofs.Numbers.{le_ends}

pub over_length : (d : List ℕ) (at : ℕ) (vs : List ℕ) → at + length vs ≤ length d → length (over d at vs) ≡ length d
unfolding over
over_length d at vs h = simp (length-append, length-take-le at d (omega arith), length-drop) (omega arith)

pub over_none : (d : List ℕ) (at : ℕ) → d ≡ over d at []
unfolding over
over_none d at = sym (simp (append-nil, add-zero, take-append-drop))

pub over_whole : (d vs : List ℕ) → length vs ≡ length d → over d 0 vs ≡ vs
unfolding over
over_whole d vs e = let k : length d ≤ 0 + length vs = omega arith in rw (drop_of_length-le d k) (append-nil vs)

-- a run of stores
pub over_sets : (d : List ℕ) (at : ℕ) (vs : List ℕ) → at + length vs ≤ length d → sets d at vs ≡ over d at vs
unfolding over
over_sets d at vs h = sets-eq vs d at h

pub over_set : (d : List ℕ) (i v : ℕ) → i < length d → set d i v ≡ over d i (v ∷ [])
unfolding over
over_set d i v h = rw (set_split d i v h) (simp (append_assoc, add-one))

-- the rest of the list from `at` on was lent, and came back with ws over its front
pub over_lent : (xs ys ws : List ℕ) (at : ℕ) → ys ≡ over (mid_of at (length xs - at) xs) 0 ws
    → put_mid at (length xs - at) xs ys ≡ over xs at ws
unfolding over
over_lent xs ys ws at p =
    let k : length (drop at xs) ≤ length xs - at = simp length-drop (omega arith) in
    rw (
      p,
      take_all (length xs - at) (drop at xs) k,
      drop_of_length-le (drop at xs) k,
      append-nil
          (ws ++ drop (0 + length ws) (drop at xs)),
    ) (simp (append_assoc, zero-add, drop-drop))

-- a part was lent, and ws stands in it now
pub over_part : (xs ws : List ℕ) (at k : ℕ) → length ws ≡ k → put_mid at k xs ws ≡ over xs at ws
unfolding over
over_part xs ws at k h = rw (← h) (simp (append_assoc, drop-drop))

-- one part after another
over_on : (d : List ℕ) (at : ℕ) (vs ws : List ℕ) → at ≤ length d → over (over d at vs) (at + length vs) ws
    ≡ over d at (vs ++ ws)
unfolding over
over_on d at vs ws h =
    let l : length (take at d ++ vs) ≡ at + length vs = simp (length-append, length-take-le at d h) in
    rw (take_at (take at d ++ vs) (drop (at + length vs) d) (at + length vs) l, ← l, drop-append-add)
    (simp (drop-drop, length-append, length-take-le at d h, append_assoc, add_assoc))

-- ---- bytes written one part after another
-- out is d with vs written over it from `at` to `here`
pub record Wrote (d : List ℕ) (at : ℕ) (vs : List ℕ) (here : ℕ) (out : List ℕ) : Type 0 where
  pub is : out ≡ over d at vs
  pub ends : at + length vs ≡ here
  pub room : at ≤ length d

pub wrote_length : {d : List ℕ} {at : ℕ} {vs : List ℕ} {here : ℕ} {xs : List ℕ} → Wrote d at vs here xs → here ≤ length d
    → length xs ≡ length d
wrote_length {d} {at} {vs} w h = ap length w.is ∙ over_length d at vs (omega (arith, w.ends, h))

module _ (d : List ℕ) (at : ℕ) (ys ws : List ℕ) where
  -- the first part, a further one, and the last
  pub first : (there : ℕ) → ys ≡ over d at ws → at ≤ length d → at + length ws ≡ there → Wrote d at ws there ys
  first there p h e = record { is = p; ends = e; room = h }

  module _ (xs vs : List ℕ) (here : ℕ) where
    pub last : ys ≡ over xs here ws → Wrote d at vs here xs → ys ≡ over d at (vs ++ ws)
    last p w = p ∙ rw (w.is, ← w.ends) (over_on d at vs ws w.room)

    pub more : (there : ℕ) → ys ≡ over xs here ws → Wrote d at vs here xs → here + length ws ≡ there
        → Wrote d at (vs ++ ws) there ys
    more there p w e = record { is = last p w; ends = rw length-append (omega (arith, w.ends)); room = w.room }

-- ---- zeros
pub zeros_none : (d : List ℕ) (at : ℕ) → d ≡ over d at (zeros 0)
unfolding zeros
zeros_none d at = over_none d at

pub zeros_length : (n : ℕ) → length (zeros n) ≡ n
unfolding zeros
zeros_length n = length-replicate n 0

-- past its end a list counts 0 too
pub zeros_at : (n i : ℕ) → get_or (zeros n) i 0 ≡ 0
unfolding zeros
zeros_at zero i = refl
zeros_at (suc n) zero = refl
zeros_at (suc n) (suc i) = zeros_at n i

pub zeros_ends : (here n there : ℕ) → here + n ≡ there → here + length (zeros n) ≡ there
zeros_ends here n there e = rw (zeros_length n) e

pub zeros_add : (m n : ℕ) → zeros m ++ zeros n ≡ zeros (m + n)
unfolding zeros
zeros_add m n = replicate-append-replicate m n 0

-- ---- a loop of stores: out is what out₀ has become after i turns
module _ (out₀ out : List ℕ) (at i : ℕ) where
  pub store_more : (vs : List ℕ) (v : ℕ) → out ≡ over out₀ at vs → length vs ≡ i → at + i < length out₀ → set out (at + i) v
      ≡ over out₀ at (vs ++ v ∷ [])
  store_more vs v e l h =
      let w : Wrote out₀ at vs (at + i) out = record { is = e; ends = ap (λ (k : ℕ). at + k) l; room = omega arith } in
      last _ _ _ _ _ _ _ (over_set out (at + i) v (omega (arith, wrote_length w (omega arith)))) w

  pub copy_more : (src : List ℕ) (n : ℕ) → out ≡ over out₀ at (take i src) → i < n → n ≤ length src → at + n ≤ length out₀
      → set out (at + i) (get_or src i 0) ≡ over out₀ at (take (i + 1) src)
  copy_more src n e l s h =
      let g : i < length src = omega arith in
      store_more (take i src) (get_or src i 0) e (length-take-le i src (omega arith)) (omega arith)
      ∙ ap (over out₀ at) (sym (rw (add-one, take-suc src i 0 g)))

  -- the loop's end
  pub over_all : (f : ℕ → List ℕ) (n : ℕ) → out ≡ over out₀ at (f i) → i ≤ n → n ≤ i → out ≡ over out₀ at (f n)
  over_all f n e l h = let q : i ≡ n = omega arith in rw q at e

pub ruleset parts = (first, last, more, le_ends, zeros_ends)
