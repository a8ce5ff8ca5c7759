-- A move writes exactly where the image is one that it takes and there is room, and what it writes is the image of which the
-- promises speak.
use Prim.Native.Nat.{ℕ, ◌≤◌}
use mathlib.Core.Path.{◌≡◌, sym, ap, ◌∙◌}
use mathlib.Core.List.{List}
use lib.ListN.{length, take}
use lib.Seq.{take-append_seam}
use Rattle.base.specs.Bytes.{over}
use Rattle.format.specs.Header.{header_of}
use Rattle.format.specs.Check.{check_of}
use Rattle.format.specs.Collapse.{if_accepted, still_open, written_if_room, output}
use Rattle.format.specs.Moves.{form_as, not_taken, not_movable, move_from, move_to, move_output}
use Rattle.format.specs.declared.Taken.TheVariants.{Either}
use Rattle.format.specs.declared.Kind.{Kind}
use Rattle.format.proofs.Picked.{pick_else}
use Rattle.laws.specs.MovedImages.{opposite, Movable}
use Rattle.laws.proofs.AcceptedImage.{either_sound, either_complete}
use Rattle.laws.proofs.CollapsedAnswer.{was_accepted, written_past, written_long}
use Rattle.laws.proofs.MovedImages.{moved_length, moved_movable, there_and_back}
use Rattle.std.specs.Prelude.{Ok}

-- an image that the move takes is refused 21 or nothing
pub movable_moves : (kind : Kind) {s : List ℕ} → Movable kind s → (room : ℕ)
    → move_to kind s room ≡ written_if_room room (length (form_as kind s))
unfolding if_accepted move_from
movable_moves kind {s} p room =
    rw (either_complete s p.accepted)
    (pick_else _ _ _ p.taken ∙ pick_else _ _ _ p.clean ∙ pick_else _ _ _ p.held
    ∙ ap (written_if_room room) (sym (moved_length kind p)))

module _ (kind : Kind) (s : List ℕ) (room long : ℕ) (e : move_to kind s room ≡ Ok long) where
  -- what was written came of such an image, and fits
  pub move_movable : (Movable kind s) × (long ≡ length (form_as kind s)) × (long ≤ room)
  unfolding move_from
  move_movable =
      let a = was_accepted (check_of Either s) _ long e in
      let n = written_past (not_taken kind (header_of s)) _ _ long a.3 in
      let o = written_past (still_open (header_of s)) _ _ long n.1 in
      let h = written_past (not_movable kind s (header_of s)) _ _ long o.1 in
      let p : Movable kind s = record {
        accepted = (either_sound s a.0 a.1 a.2).0;
        taken = n.0;
        clean = o.0;
        held = h.0;
      } in
      let f = written_long room _ long (sym (movable_moves kind p room) ∙ e) in
      (p, f.0, f.1)

-- the output begins with the image
pub move_output_lem : (kind : Kind) (s out : List ℕ) (long : ℕ) → move_to kind s (length out) ≡ Ok long
    → take long (move_output kind s out) ≡ form_as kind s
unfolding output over
move_output_lem kind s out long e =
    rw (e, (move_movable kind s (length out) long e).1) (take-append_seam (form_as kind s) _)

-- ---- there and back by the calls, whatever outputs are lent
module _ (kind : Kind) (s out : List ℕ) (long : ℕ) (e : move_to kind s (length out) ≡ Ok long) where
  -- the second call refuses 21 or nothing
  pub back_moves : (room : ℕ)
      → move_to (opposite kind) (take long (move_output kind s out)) room ≡ written_if_room room
      (length (form_as (opposite kind) s))
  back_moves room =
      let p = (move_movable kind s (length out) long e).0 in
      rw (move_output_lem kind s out long e) (movable_moves (opposite kind) (moved_movable kind p) room)
      ∙ ap (λ (t : List ℕ). written_if_room room (length t)) (there_and_back kind p)

  pub back_output : (back : List ℕ) (more : ℕ)
      → move_to (opposite kind) (take long (move_output kind s out)) (length back) ≡ Ok more
      → take more (move_output (opposite kind) (take long (move_output kind s out)) back) ≡ form_as (opposite kind) s
  back_output back more f =
      move_output_lem (opposite kind) _ back more f ∙ ap (form_as (opposite kind)) (move_output_lem kind s out long e)
      ∙ there_and_back kind (move_movable kind s (length out) long e).0
