-- The second check of two images that agree in all that decides is the same, and leaves the same in the list.
use Prim.Native.Nat.{ℕ, ◌/◌}
use mathlib.Core.Path.{◌≡◌, refl, sym, ap, ◌∙◌}
use mathlib.Core.List.{List}
use mathlib.Core.Bool.{Bool, true, ◌&&◌}
use lib.Dec.{ltb}
use lib.ListN.{length}
use Rattle.base.specs.Pick.{pick}
use Rattle.base.specs.Rounding.{ceil}
use Rattle.base.specs.Bytes.{over, zeros}
use Rattle.base.proofs.Steps.{and_both, pick_both}
use Rattle.format.specs.Geometry.{file_sectors}
use Rattle.format.specs.Header.{header_of}
use Rattle.format.specs.Areas.{areas}
use Rattle.format.specs.Check.{check}
use Rattle.format.specs.CheckIn.{words_needed, marked_sectors, came_to_marking, check_in_room, with_marked, check_in}
use Rattle.format.specs.CheckIn.{list_after_check}
use Rattle.format.specs.declared.Taken.TheVariants.{KdmvAlone}
use Rattle.format.specs.declared.Refusal.TheVariants.{TooLittleRoom}
use Rattle.format.proofs.CameToMarking.{unmarked_of_lem}
use Rattle.format.proofs.HeaderJudged.{judged_header}
use Rattle.format.proofs.Places.{places_kept}
use Rattle.laws.specs.Unused.{SameUsed}
use Rattle.laws.proofs.CheckInRoom.{came_plain}
use Rattle.laws.proofs.Unused.{areas_same}
use Rattle.laws.proofs.UsedAnswers.{used_check}
use Rattle.std.specs.Prelude.{Result, Err}
use Rattle.format.specs.declared.Shape.{Shape}
use Rattle.format.specs.declared.Refusal.{Refusal}

module _ (s t : List ℕ) (both : SameUsed s t) where
  -- ---- where the check comes to 12 they have one length and the same areas
  module _ (came : came_to_marking (check s) ≡ true) where
    sectors_same : file_sectors s ≡ file_sectors t
    sectors_same =
        let u = unmarked_of_lem KdmvAlone s came in ap (λ (n : ℕ). n / 512) (both.used (header_of s) u.judged).long

    marked_same : areas s (header_of s) ≡ areas t (header_of t)
    marked_same =
        let u = unmarked_of_lem KdmvAlone s came in
        let sound = u.filed.placed.sound in
        let is : header_of s ≡ header_of t = judged_header t (header_of s) (sym both.judged ∙ u.judged) in
        areas_same s t (header_of s) sound.sizes.low sound.some (both.used (header_of s) u.judged)
        (places_kept s (header_of s) u.filed.placed.kept) u.filed.none
        ∙ ap (areas t) is

  room_same : (room : ℕ) → check_in_room s room ≡ check_in_room t room
  unfolding check_in_room
  room_same room =
      ap (λ (b : Bool). pick b (Err TooLittleRoom) (check s))
      (and_both (came_to_marking (check s)) _ _ (λ came. ap (λ (n : ℕ). ltb room (ceil n 64)) (sectors_same came)))
      ∙ ap (λ (a : Result Shape Refusal). pick (came_to_marking a && ltb room (words_needed t)) (Err TooLittleRoom) a)
      (used_check s t both)

  pub used_check_in : (room : ℕ) → check_in s room ≡ check_in t room
  unfolding with_marked
  used_check_in room =
      let a = check_in_room s room in
      ap (λ (n : ℕ). record { checked = a; marked = n })
      (pick_both ◌≡◌ (came_to_marking a) _ _ _ _ (λ came. ap marked_sectors (marked_same (came_plain s room came).1))
      (λ n. refl))
      ∙ ap (with_marked t) (room_same room)

  pub used_lent : (list : List ℕ) → list_after_check s list ≡ list_after_check t list
  unfolding list_after_check
  used_lent list =
      let a = check_in_room s (length list) in
      pick_both ◌≡◌ (came_to_marking a) _ _ _ _
      (λ came. ap (λ (n : ℕ). over list 0 (zeros (ceil n 64))) (sectors_same (came_plain s (length list) came).1))
      (λ n. refl)
      ∙ ap (λ (a : Result Shape Refusal). pick (came_to_marking a) (over list 0 (zeros (words_needed t))) list)
      (room_same (length list))
