-- The frame's steps, each premise as the code gives it.
use Prim.Native.Nat.{ℕ, ◌*◌, ◌≤◌, ◌<◌}
use mathlib.Core.Path.{◌≡◌, refl, sym, ap, ◌∙◌}
use mathlib.Core.List.{List}
use mathlib.Core.Bool.{Bool, true, false}
use native.Mathlib.Omega.{arith}
use lib.ListN.{length, length-append}
use borrow.Author.Tests.{lt-ltb, le-ltb}
use Rattle.base.specs.Pick.{pick}
use Rattle.format.specs.Header.{judge}
use Rattle.format.specs.Areas.{header_area, descriptor_area, directory_area, redundant_area, primary_tables, redundant_tables}
use Rattle.format.specs.Areas.{footer_area, last_area}
use Rattle.format.specs.Check.{misplaced, lowest_misplaced}
use Rattle.format.specs.Judged.{Placed}
use Rattle.format.specs.Frame.{frame_words, frame_areas, frame_count, listed_if_room, frame_from, frame, list_after}
use Rattle.format.specs.Frame.{frame_list}
use Rattle.format.specs.declared.Header.{Header}
use Rattle.format.specs.declared.MisplacedPart.{MisplacedPart}
use Rattle.format.specs.declared.Refusal.{Refusal}
use Rattle.format.specs.declared.Refusal.TheVariants.{Misplaced, TooLittleRoom}
use Rattle.format.proofs.HeaderSound.{sound_of}
use Rattle.header.proofs.HeaderAnswered.{judged_header}
use Rattle.framing.specs.WordsPut.{WordsPut}
use Rattle.framing.proofs.WordsLaws.{told_long}
use Rattle.frame.specs.FrameTold.{FrameTold}
use Rattle.std.specs.Prelude.{Result, Ok, Err}

-- three words an area
pub words_long : (s : List ℕ) (h : Header) → length (frame_words s h) ≡ 3 * frame_count s h
unfolding frame_words frame_areas
words_long s h =
    simp length-append
    (omega (
      arith,
      told_long 1 (header_area h),
      told_long 2 (descriptor_area h),
      told_long 3 (directory_area h),
      told_long 4 (redundant_area h),
      told_long 5 (primary_tables s h),
      told_long 6 (redundant_tables s h),
      told_long 7 (footer_area s h),
      told_long 8 (last_area s h),
    ))

-- ---- 21, or the areas listed
module _ (s : List ℕ) (h : Header) (list : List ℕ) (count : ℕ) (e : count ≡ frame_count s h) where
  pub too_short : length list < 3 * count
      → FrameTold (listed_if_room (length list) (frame_count s h)) (frame_words s h) list (Err TooLittleRoom) list
  unfolding listed_if_room pick list_after
  too_short l = rw (lt-ltb (length list) (3 * frame_count s h) (rw e at l)) (record { told = refl; left = refl })

  module _ (l : 3 * count ≤ length list) where
    pub words_fit : length (frame_words s h) ≤ length list
    words_fit = omega (arith, words_long s h)

    pub listed : {after : List ℕ} {r : ℕ} → WordsPut (frame_words s h) list 0 after r
        → FrameTold (listed_if_room (length list) (frame_count s h)) (frame_words s h) list (Ok count) after
    unfolding listed_if_room pick list_after
    listed p =
        rw (le-ltb (length list) (3 * frame_count s h) (rw e at l)) (record { told = ap Ok e; left = p.words })

-- ---- 8, then the rest
module _ (s : List ℕ) (h : Header) (list : List ℕ) {r : Bool} (q : r ≡ misplaced s h) where
  pub misplaced_told : r ≡ true → {p : MisplacedPart} → p ≡ lowest_misplaced s h
      → FrameTold (frame_from s (length list) (Ok h)) (frame_words s h) list (Err (Misplaced p)) list
  unfolding frame_from pick list_after
  misplaced_told t low = rw (← q, t, ← low) (record { told = refl; left = refl })

  pub placed_of : judge s ≡ Ok h → r ≡ false → Placed s h
  placed_of e f = record { sound = sound_of s h e; kept = sym q ∙ f }

  pub placed_told : r ≡ false → {z : Result ℕ Refusal} {after : List ℕ}
      → FrameTold (listed_if_room (length list) (frame_count s h)) (frame_words s h) list z after
      → FrameTold (frame_from s (length list) (Ok h)) (frame_words s h) list z after
  unfolding frame_from pick
  placed_told f p = rw (← q, f) p

-- ---- the call
module _ (s : List ℕ) (list : List ℕ) (a : Result Header Refusal) (e : a ≡ judge s) where
  pub frame_refused : (r : Refusal) → a ≡ Err r → (Err r ≡ frame s (length list)) × (list ≡ frame_list s list)
  unfolding frame_from list_after
  frame_refused r q = rw (← e, q) (refl, refl)

  module _ (h : Header) (q : a ≡ Ok h) where
    pub frame_known : judge s ≡ Ok h
    frame_known = sym e ∙ q

    pub frame_told : {z : Result ℕ Refusal} {after : List ℕ}
        → FrameTold (frame_from s (length list) (Ok h)) (frame_words s h) list z after
        → (z ≡ frame s (length list)) × (after ≡ frame_list s list)
    frame_told p = rw (← e, q, ← judged_header a s h e q) (p.told, p.left)
