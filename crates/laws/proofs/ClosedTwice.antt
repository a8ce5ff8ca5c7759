-- Closing twice (request A12): a closed image of at most 2^31 sectors is closed again with the same answer, and keeps the same
-- grains; kept part and tail are then the same image.
use Prim.Native.Nat.{ℕ, ◌*◌, ◌≤◌}
use mathlib.Core.Path.{◌≡◌, refl, sym, ap, ◌∙◌}
use mathlib.Core.List.{List, [], ◌∷◌, ◌++◌}
use mathlib.Core.Bool.{true}
use native.Mathlib.Omega.{arith}
use lib.Dec.{ltb}
use lib.ListN.{length, take}
use borrow.Author.Tests.{le-ltb}
use Rattle.base.specs.Pick.{pick}
use Rattle.base.specs.Numbers.{le_bytes}
use Rattle.base.specs.Strings.{same_at}
use Rattle.base.specs.Bytes.{zeros}
use Rattle.base.specs.Rows.{rows, all_of}
use Rattle.base.proofs.Steps.{or_no}
use Rattle.base.proofs.SameBytes.{within, number_same}
use Rattle.format.specs.Geometry.{file_sectors, bytes_at}
use Rattle.format.specs.Kdmv.{kdmv_fields, kdmv_magic, kdmv_fault}
use Rattle.format.specs.Header.{directory_entries_of, start_of, unless_fault, judge_kdmv_start, judge_start}
use Rattle.format.specs.Check.{descriptor_misplaced}
use Rattle.format.specs.Stream.{overhead, KeptGrain, walk, kept_grains, grains_end, kept_sectors}
use Rattle.format.specs.Tail.{new_directory, tail_sectors, marker_bytes, table_parts, new_directory_bytes, footer_bytes}
use Rattle.format.specs.Tail.{tail_bytes}
use Rattle.format.specs.Close.{no_stream, walk_misplaced, tail_of, closed_image, close_from, close_judged}
use Rattle.format.specs.Close.{close}
use Rattle.format.specs.declared.Header.{Header}
use Rattle.format.specs.declared.Refusal.TheVariants.{TooLittleRoom}
use Rattle.format.proofs.HeaderKdmv.{no_or}
use Rattle.format.proofs.Picked.{pick_then, pick_else}
use Rattle.format.proofs.SameHeader.{string}
use Rattle.format.proofs.BytesAt.{part_alike}
use Rattle.laws.specs.Closed.{Closable}
use Rattle.laws.proofs.ClosedStart.{Closing, closing, kept_late, kept_start}
use Rattle.laws.proofs.ClosedHeader.{closed_length, closed_sectors_lem, head_same, fields_same, start_closed}
use Rattle.laws.proofs.ClosedAgain.{walk_same}
use Rattle.std.specs.Prelude.{Result, Ok, Err}
use Rattle.format.specs.declared.Refusal.{Refusal}
use Rattle.format.specs.declared.closing.Kept.{Kept}
use Rattle.format.specs.AnswerParts.{closed_as}

-- ---- a start whose magic and fields are right is not refused 1 to 6
start_known : (s : List ℕ) → 512 ≤ length s → same_at s 0 kdmv_magic ≡ true → kdmv_fault (kdmv_fields s) ≡ (Ok tt)
    → judge_start s ≡ Ok (start_of s)
unfolding judge_start judge_kdmv_start unless_fault
start_known s long magic kept =
    pick_else _ _ _ (le-ltb (length s) 4 (omega arith))
    ∙ pick_then _ _ _ magic
    ∙ pick_else _ _ _ (le-ltb (length s) 512 long)
    ∙ rw kept

-- what is answered where 41 is not given
abbrev answered : ℕ → Header → ℕ → List KeptGrain → Result Kept Refusal
answered room h sectors l =
    pick (ltb room (512 * tail_sectors h l)) (Err TooLittleRoom) (closed_as sectors (length l) (512 * tail_sectors h l))

room_decides : (s : List ℕ) → Closable s → (room : ℕ)
    → close s room ≡ answered room (start_of s) (kept_sectors s (start_of s)) (kept_grains s (start_of s))
unfolding close_judged close_from
room_decides s c room = rw c.known (pick_else _ _ _ c.closable)

-- tails over starts of one sector 0
module _ (s t : List ℕ) (front : bytes_at s 0 56 ≡ bytes_at t 0 56) (back : bytes_at s 64 448 ≡ bytes_at t 64 448) where
  footer_alike : (directory : ℕ) → footer_bytes s directory ≡ footer_bytes t directory
  unfolding footer_bytes
  footer_alike directory =
      ap (λ (v : List ℕ). all_of (v ∷ le_bytes 8 directory ∷ bytes_at s 64 448 ∷ [])) front
      ∙ ap (λ (v : List ℕ). all_of (bytes_at t 0 56 ∷ le_bytes 8 directory ∷ v ∷ [])) back

  pub tail_alike : (h : Header) (end : ℕ) (l : List KeptGrain) → tail_bytes s h end l ≡ tail_bytes t h end l
  unfolding tail_bytes
  tail_alike h end l =
      ap
      (λ (v : List ℕ). all_of
      (rows (directory_entries_of h) (table_parts l)
      ∷ marker_bytes h.directory_sectors 2
      ∷ new_directory_bytes h end l
      ∷ marker_bytes 0 3
      ∷ v
      ∷ zeros 512
      ∷ []))
      (footer_alike (new_directory h end l))

module _ (s : List ℕ) (c : Closable s) where
  z : Closing s
  z = closing s c

  overhead_same : overhead (closed_image s) ≡ overhead s
  overhead_same =
      number_same (closed_image s) s 64 8
      (within (closed_image s) s 0 512 64 8 (head_same s z) (omega arith) (omega arith))

  pub again_grains : kept_grains (closed_image s) (start_of (closed_image s)) ≡ kept_grains s (start_of s)
  again_grains =
      ap (λ (h : Header). walk (closed_image s) h (file_sectors (closed_image s)) (overhead (closed_image s)) 0)
      (start_closed s z)
      ∙ ap (λ (p : ℕ). walk (closed_image s) (start_of s) (file_sectors (closed_image s)) p 0) overhead_same
      ∙ walk_same s z (file_sectors s) (file_sectors (closed_image s)) (overhead s) 0 refl (omega arith)

  pub again_sectors : kept_sectors (closed_image s) (start_of (closed_image s)) ≡ kept_sectors s (start_of s)
  again_sectors =
      ap (λ (p : ℕ). grains_end p (kept_grains (closed_image s) (start_of (closed_image s)))) overhead_same
      ∙ ap (λ (l : List KeptGrain). grains_end (overhead s) l) again_grains

  -- kept part and tail are the image that they were
  tail_same : tail_of (closed_image s) (start_of (closed_image s)) ≡ tail_of s (start_of s)
  tail_same =
      let room : 512 ≤ length (closed_image s) = omega (arith, closed_length s z, kept_late s z, z.late) in
      let long = z.started.long in
      ap (λ (h : Header). tail_bytes (closed_image s) h (kept_sectors (closed_image s) (start_of (closed_image s)))
      (kept_grains (closed_image s) (start_of (closed_image s)))) (start_closed s z)
      ∙ ap (λ (n : ℕ). tail_bytes (closed_image s) (start_of s) n (kept_grains (closed_image s) (start_of (closed_image s))))
      again_sectors
      ∙ ap (λ (l : List KeptGrain). tail_bytes (closed_image s) (start_of s) (kept_sectors s (start_of s)) l) again_grains
      ∙ tail_alike (closed_image s) s
      (part_alike (closed_image s) s 0 56 (omega arith) (omega arith)
      (within (closed_image s) s 0 512 0 56 (head_same s z) (omega arith) (omega arith)))
      (part_alike (closed_image s) s 64 448 (omega arith) (omega arith)
      (within (closed_image s) s 0 512 64 448 (head_same s z) (omega arith) (omega arith)))
      (start_of s) _ _

  pub again_image : closed_image (closed_image s) ≡ closed_image s
  again_image =
      ap (λ (n : ℕ). take (512 * n) (closed_image s) ++ tail_of (closed_image s) (start_of (closed_image s))) again_sectors
      ∙ ap (λ (v : List ℕ). v ++ tail_of (closed_image s) (start_of (closed_image s))) (kept_start s z)
      ∙ ap (λ (v : List ℕ). take (512 * kept_sectors s (start_of s)) s ++ v) tail_same

  module _ (few : file_sectors (closed_image s) ≤ 0x80000000) where
    pub again_closable : Closable (closed_image s)
    again_closable =
        let a = or_no (no_stream (start_of s)) _ c.closable in
        let e = or_no (walk_misplaced s) (descriptor_misplaced (overhead s) (start_of s)) a.1 in
        record {
          known = start_known (closed_image s) (omega (arith, closed_length s z, kept_late s z, z.late))
              (string (closed_image s) s (head_same s z) 0 kdmv_magic (omega arith) ∙ z.started.magic)
              (ap kdmv_fault (fields_same s z) ∙ z.started.kept);
          closable = no_or _ _ (ap no_stream (start_closed s z) ∙ a.0)
              (no_or _ _
              (no_or _ _ (le-ltb 0x80000000 (file_sectors (closed_image s)) few)
              (no_or _ _ (le-ltb (overhead (closed_image s)) 2 (omega (arith, overhead_same, z.late)))
              (le-ltb (file_sectors (closed_image s)) (overhead (closed_image s))
              (omega (arith, overhead_same, kept_late s z, closed_sectors_lem s z)))))
              (ap (λ (p : ℕ). descriptor_misplaced p (start_of (closed_image s))) overhead_same
              ∙ ap (descriptor_misplaced (overhead s)) (start_closed s z) ∙ e.1));
        }

    -- the same answer in the same room
    pub again_answer : (room : ℕ) → close (closed_image s) room ≡ close s room
    again_answer room =
        let sectors = kept_sectors (closed_image s) (start_of (closed_image s)) in
        let l = kept_grains (closed_image s) (start_of (closed_image s)) in
        room_decides (closed_image s) again_closable room
        ∙ ap (λ (h : Header). answered room h sectors l) (start_closed s z)
        ∙ ap (λ (n : ℕ). answered room (start_of s) n l) again_sectors
        ∙ ap (λ (k : List KeptGrain). answered room (start_of s) (kept_sectors s (start_of s)) k) again_grains
        ∙ sym (room_decides s c room)
