-- Where a list stands in a longer one.
use Prim.Native.Nat.{ℕ, zero, suc, ◌+◌, ◌≤◌, ◌<◌}
use mathlib.Core.Path.{◌≡◌, sym, ap, ◌∙◌}
use mathlib.Core.List.{List, ◌∷◌, ◌++◌}
use native.Mathlib.Omega.{arith}
use native.Mathlib.Nat.{add-zero, zero-add, add_assoc}
use native.Mathlib.Numerals.{one-add}
use lib.ListN.{length, get_or, take, drop, length-append, length-take, length-drop, get_or-append}
use lib.Seq.{get_or-append-add, get_or-take, get_or-drop, ext_get_or}

-- w stands in s from `at` on
pub record Stands (s : List ℕ) (at : ℕ) (w : List ℕ) : Type 0 where
  pub inside : at + length w ≤ length s
  pub same : (i : ℕ) → i < length w → get_or s (at + i) 0 ≡ get_or w i 0

-- ---- in longer lists
pub stands_whole : (s : List ℕ) → Stands s 0 s
stands_whole s = record { inside = omega arith; same = λ i b. rw zero-add }

pub stands_left : (s t : List ℕ) {at : ℕ} {w : List ℕ} → Stands s at w → Stands (s ++ t) at w
stands_left s t {at} {w} h =
    record {
      inside = rw length-append (omega arith);
      same = λ i b. get_or-append s t 0 (at + i) (omega (arith, h.inside)) ∙ h.same i b;
    }

pub stands_right : (s w : List ℕ) → Stands (s ++ w) (length s) w
stands_right s w =
    record {
      inside = rw length-append (omega arith);
      same = λ i b. get_or-append-add s w i 0;
    }

pub stands_in : {s t w : List ℕ} {a b : ℕ} → Stands s a t → Stands t b w → Stands s (a + b) w
stands_in {s} {t} {w} {a} {b} h k =
    record {
      inside = omega arith;
      same = λ i l. rw add_assoc (h.same (b + i) (omega (arith, k.inside)) ∙ k.same i l);
    }

pub stands_at : {s w : List ℕ} {a : ℕ} (b : ℕ) → a ≡ b → Stands s a w → Stands s b w
stands_at b e h = rw (← e) h

-- ---- element by element
module _ {s w : List ℕ} {at x : ℕ} where
  pub head_of : Stands s at (x ∷ w) → get_or s at 0 ≡ x
  head_of h = rw add-zero at (h.same 0 (omega arith))

  pub tail_of : Stands s at (x ∷ w) → Stands s (at + 1) w
  tail_of h =
      record {
        inside = omega (arith, h.inside);
        same = λ i b. rw (add_assoc, one-add) (h.same (suc i) (omega arith));
      }

  pub stands_cons : get_or s at 0 ≡ x → Stands s (at + 1) w → Stands s at (x ∷ w)
  stands_cons e h = record { inside = omega (arith, h.inside); same = go }
    where
      go : (i : ℕ) → i < suc (length w) → get_or s (at + i) 0 ≡ get_or (x ∷ w) i 0
      go zero b = rw add-zero e
      go (suc i) b = rw (← one-add, ← add_assoc) (h.same i (omega arith))

-- ---- the part that is read there is w, and the other way
pub read_bytes : {s : List ℕ} {at : ℕ} {w : List ℕ} → Stands s at w → take (length w) (drop at s) ≡ w
read_bytes {s} {at} {w} h =
    ext_get_or 0 _ w (simp (length-take, length-drop) (omega (arith, h.inside)))
    (λ i b.
    let l : i < length w = omega (arith, simp (length-take, length-drop) at b) in
    get_or-take (length w) (drop at s) i 0 l ∙ get_or-drop at s i 0 ∙ h.same i l)

pub bytes_stand : (s : List ℕ) (at : ℕ) (w : List ℕ) → at + length w ≤ length s → take (length w) (drop at s) ≡ w
    → Stands s at w
bytes_stand s at w h e =
    record {
      inside = h;
      same = λ i l. sym (get_or-drop at s i 0) ∙ sym (get_or-take (length w) (drop at s) i 0 l)
          ∙ ap (λ (v : List ℕ). get_or v i 0) e;
    }
