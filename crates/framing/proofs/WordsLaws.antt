-- Words put one after the other: each premise as the code gives it.
use Prim.Native.Nat.{ℕ, ◌+◌, ◌*◌, ◌≤◌}
use mathlib.Core.Path.{◌≡◌, refl, sym, ap, ◌∙◌}
use mathlib.Core.List.{List, [], ◌∷◌, ◌++◌, append_assoc}
use mathlib.Core.Bool.{Bool, true, false}
use native.Mathlib.Omega.{arith}
use native.Mathlib.Nat.{add-zero}
use lib.ListN.{length, length-append}
use lib.Seq.{drop-drop}
use borrow.Rule.Slice.PartMut.{put_mid}
use Rattle.base.specs.Bytes.{over}
use Rattle.base.proofs.Over.{over_none, over_length, first, last}
use Rattle.base.specs.Pick.{pick}
use Rattle.format.specs.Areas.{Area, area, if_there, named}
use Rattle.format.specs.Frame.{told_area, told}
use Rattle.format.specs.declared.Entry.{Entry}
use Rattle.format.specs.declared.Entry.TheVariants.{Absent, Zero, Sector}
use Rattle.framing.specs.WordsPut.{WordsPut}

-- nothing is put
pub put_none : (d : List ℕ) (at : ℕ) → WordsPut [] d at d at
put_none d at = record { words = over_none d at; next = sym (add-zero at) }

-- a part of the list is written
pub put_part : (d ws ys : List ℕ) (at n : ℕ) → ys ≡ ws → n ≡ length ws → put_mid at n d ys ≡ over d at ws
unfolding over
put_part d ws ys at n e q = rw (e, q) (simp (append_assoc, drop-drop))

-- one after the other
pub put_more : {ws vs d x y : List ℕ} {at m r : ℕ} → at + length (ws ++ vs) ≤ length d → WordsPut ws d at x m
    → WordsPut vs x m y r → WordsPut (ws ++ vs) d at y r
put_more {ws} {vs} {d} {x} {y} {at} {m} {r} room p q =
    let long : length (ws ++ vs) ≡ length ws + length vs = length-append ws vs in
    let w = first d at x ws m p.words (omega arith) (sym p.next) in
    record { words = last d at y vs x ws m q.words w; next = omega (arith, p.next, q.next) }

-- the list stays as long as it was
pub put_length : {ws d x : List ℕ} {at m : ℕ} → at + length ws ≤ length d → WordsPut ws d at x m → length x ≡ length d
put_length {ws} {d} {x} {at} room p = ap length p.words ∙ over_length d at ws room

-- room for both, and for the second where the first is put
module _ (ws vs d : List ℕ) (at : ℕ) (room : at + length (ws ++ vs) ≤ length d) where
  pub room_left : at + length ws ≤ length d
  room_left = omega (arith, length-append ws vs)

  pub room_right : {x : List ℕ} {m : ℕ} → WordsPut ws d at x m → m + length vs ≤ length x
  room_right p = omega (arith, length-append ws vs, p.next, put_length room_left p)

-- ---- areas
pub area_long : (group : ℕ) (a : Area) → length (told_area group a) ≡ 3
unfolding told_area
area_long group a = refl

pub told_long : (group : ℕ) (l : List Area) → length (told group l) ≡ 3 * length l
unfolding told
told_long group [] = refl
told_long group (a ∷ l) = rw length-append (omega (arith, area_long group a, told_long group l))

pub told_append : (group : ℕ) (l k : List Area) → told group (l ++ k) ≡ told group l ++ told group k
unfolding told
told_append group [] k = refl
told_append group (a ∷ l) k = rw (told_append group l k, append_assoc)

-- ---- areas that are known to be others: one, or none
module _ (group at : ℕ) (l : List Area) where
  pub room_as : (n : ℕ) → at + length (told group l) ≤ n → (k : List Area) → l ≡ k → at + length (told group k) ≤ n
  room_as n room k e = rw e at room

  pub put_as : {d x : List ℕ} {r : ℕ} (k : List Area) → l ≡ k → WordsPut (told group k) d at x r
      → WordsPut (told group l) d at x r
  put_as k e p = rw e p

  pub put_nothing : (d : List ℕ) → l ≡ [] → WordsPut (told group l) d at d at
  unfolding told
  put_nothing d e = rw e (put_none d at)

module _ (a : Area) where
  pub there : (b : Bool) → b ≡ true → if_there b a ≡ a ∷ []
  unfolding if_there pick
  there b e = rw e

  pub not_there : (b : Bool) → b ≡ false → if_there b a ≡ []
  unfolding if_there pick
  not_there b e = rw e

module _ (sectors : ℕ) (entry : Entry) where
  pub named_one : (t : ℕ) → entry ≡ Sector t → named (λ e. sectors) entry ≡ area t sectors ∷ []
  unfolding named
  named_one t e = rw e

  pub named_absent : entry ≡ Absent → named (λ e. sectors) entry ≡ []
  unfolding named
  named_absent e = rw e

  pub named_zero : entry ≡ Zero → named (λ e. sectors) entry ≡ []
  unfolding named
  named_zero e = rw e
