-- What each part of a move answers and leaves in the output, each premise as the code gives it.
use Prim.Native.Nat.{ℕ, ◌≤◌, ◌<◌}
use mathlib.Core.Path.{◌≡◌, refl, sym, ◌∙◌}
use mathlib.Core.List.{List}
use mathlib.Core.Bool.{Bool, true, false}
use borrow.Author.Tests.{lt-ltb, le-ltb}
use Rattle.base.specs.Pick.{pick}
use Rattle.base.proofs.Steps.{or_no}
use Rattle.format.specs.Header.{header_of}
use Rattle.format.specs.Entries.{grain_entry}
use Rattle.format.specs.Grains.{grain_map}
use Rattle.format.specs.Collapse.{map_of, still_open, written_if_room}
use Rattle.format.specs.Moves.{laid_as, laid_length_as, form_as, is_kind, not_taken, says_zero, zero_grain, zero_lost}
use Rattle.format.specs.Moves.{not_movable}
use Rattle.format.specs.Moves.{move_from}
use Rattle.format.specs.declared.Kind.{Kind}
use Rattle.format.specs.declared.Header.{Header}
use Rattle.format.specs.declared.Entry.{Entry}
use Rattle.format.specs.declared.Refusal.TheVariants.{NotCollapsible, StillOpen, NotMovable}
use Rattle.layers.specs.TwoLayers.{Readable, Layers, image_of, length_of}
use Rattle.accept.specs.AcceptedHeader.{Checked}
use Rattle.collapse.specs.Answered.{Answered}
use Rattle.collapse.proofs.Checks.{readable}
use Rattle.collapse.proofs.CollapseSteps.{refused_here, not_here, merge_same}
use Rattle.std.specs.Prelude.{Result, Err}
use Rattle.format.specs.declared.Refusal.{Refusal}

-- ---- at the arms of a match
pub taken_as : (z : Bool) (kind other : Kind) (h : Header) → kind ≡ other → z ≡ not_taken other h → z ≡ not_taken kind h
taken_as z kind other h e p = rw e p

pub zero_as : (z : Bool) (a v : Entry) → a ≡ v → z ≡ says_zero v → z ≡ says_zero a
zero_as z a v e p = rw e p

pub lost_as : (z : Bool) (kind other : Kind) (s : List ℕ) (h : Header) → kind ≡ other → z ≡ zero_lost other s h
    → z ≡ zero_lost kind s h
lost_as z kind other s h e p = rw e p

pub zero_here : (z : Bool) (a : Entry) (s : List ℕ) (h : Header) (g : ℕ) → a ≡ grain_entry s h g → z ≡ says_zero a
    → z ≡ zero_grain s h g
zero_here z a s h g e p = rw (← e) p

-- ---- 44
module _ (kind : Kind) (s : List ℕ) (h : Header) where
  pub too_small : h.grain_size < 8 → true ≡ not_movable kind s h
  too_small l = rw (lt-ltb h.grain_size 8 l)

  pub large_enough : {z : Bool} → 8 ≤ h.grain_size → z ≡ zero_lost kind s h → z ≡ not_movable kind s h
  large_enough l e = rw (le-ltb h.grain_size 8 l) e

-- ---- an image over itself
pub itself : (s : List ℕ) (h : Header) → Readable s h → Layers s h s h
itself s h r = record { below = r; above = r; capacity = refl; size = refl }

pub fitted_as : (kind : Kind) (s : List ℕ) (h : Header) (room : ℕ) {d y : List ℕ} {r : Result ℕ Refusal}
    → Answered (written_if_room room (length_of kind s h s h)) (image_of kind s h s h) d r y
    → Answered (written_if_room room (laid_length_as kind h (grain_map s h))) (laid_as kind h (grain_map s h)) d r y
fitted_as kind s h room p = rw (merge_same (grain_map s h)) at p

-- ---- 23, 27, and what comes after them
module _ (kind : Kind) (s : List ℕ) (h : Header) (room : ℕ) (image d : List ℕ) {a : Bool} (e : a ≡ not_taken kind h) where
  pub not_taken_lem : a ≡ true → Answered (move_from kind s h (grain_map s h) room) image d (Err NotCollapsible) d
  unfolding move_from
  not_taken_lem t = refused_here NotCollapsible _ image d e t

  module _ (n : a ≡ false) {b : Bool} (o : b ≡ still_open h) where
    pub not_clean : b ≡ true → Answered (move_from kind s h (grain_map s h) room) image d (Err StillOpen) d
    unfolding move_from
    not_clean t = not_here NotCollapsible _ image d e n (refused_here StillOpen _ image d o t)

    pub then_sized : b ≡ false → {r : Result ℕ Refusal} {y : List ℕ}
        → Answered (pick (not_movable kind s h) (Err NotMovable)
        (written_if_room room (laid_length_as kind h (grain_map s h))))
        image d r y
        → Answered (move_from kind s h (grain_map s h) room) image d r y
    unfolding move_from
    then_sized f p = not_here NotCollapsible _ image d e n (not_here StillOpen _ image d o f p)

-- where 23 is not given, the image can be read
pub read_taken : (kind : Kind) (s : List ℕ) (h : Header) {a : Bool} → Checked s h → a ≡ not_taken kind h → a ≡ false
    → Readable s h
read_taken kind s h c e n = readable s h c (or_no (is_kind kind h) h.packed (sym e ∙ n)).1

-- the image's header is the one that its bytes tell
pub moved_as : (kind : Kind) (s : List ℕ) (h : Header) → Checked s h → (room : ℕ) {d y : List ℕ} {r : Result ℕ Refusal}
    → Answered (move_from kind s h (grain_map s h) room) (laid_as kind h (grain_map s h)) d r y
    → Answered (move_from kind s (header_of s) (map_of s) room) (form_as kind s) d r y
moved_as kind s h c room p = rw c.is at p
