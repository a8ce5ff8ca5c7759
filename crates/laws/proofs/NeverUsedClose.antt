-- Bytes from 512 x F on are never used (request A12): starts that agree below them are closed alike, with the same tail.
use Prim.Native.Nat.{ℕ, zero, suc, ◌+◌, ◌*◌, ◌<◌}
use mathlib.Core.Path.{◌≡◌, refl, ap, ◌∙◌}
use mathlib.Core.List.{List, ◌∷◌}
use mathlib.Core.Bool.{true}
use native.Mathlib.Omega.{arith}
use lib.Dec.{leb}
use lib.ListN.{length}
use borrow.Author.Tests.{leb-false}
use Rattle.base.specs.Strings.{same_at}
use Rattle.base.proofs.Steps.{pick_both}
use Rattle.base.proofs.SameBytes.{number_same}
use Rattle.format.specs.Geometry.{file_sectors}
use Rattle.format.specs.Kdmv.{kdmv_magic, kdmv_fields}
use Rattle.format.specs.Cowd.{cowd_magic}
use Rattle.format.specs.Header.{start_of, kdmv_header, judge_kdmv_start, judge_start}
use Rattle.format.specs.Entries.{marker_first, marker_size}
use Rattle.format.specs.Stream.{overhead, if_whole, marker_type, block_at, KeptGrain, kept_grain, walk_on, walk, kept_grains}
use Rattle.format.specs.Stream.{grains_end, kept_sectors}
use Rattle.format.specs.Tail.{tail_bytes}
use Rattle.format.specs.Close.{tail_of, close_from, close_judged, close, tail_written, close_output}
use Rattle.format.specs.declared.Header.{Header}
use Rattle.format.specs.declared.KdmvFields.{KdmvFields}
use Rattle.format.specs.declared.closing.Block.{Block}
use Rattle.format.specs.declared.closing.Block.TheVariants.{Stop, Other, Grain}
use Rattle.format.proofs.Entries.{sectors_same}
use Rattle.format.proofs.SameHeader.{string, kdmv_same, judge_cowd_same}
use Rattle.format.proofs.BytesAt.{part_alike}
use Rattle.laws.specs.NeverUsed.{SameSectors}
use Rattle.laws.proofs.NeverUsed.{below, same_head}
use Rattle.laws.proofs.ClosedTwice.{tail_alike}
use Rattle.std.specs.Prelude.{Result, Ok, Err}
use Rattle.format.specs.declared.Refusal.{Refusal}
use Rattle.format.specs.declared.closing.Kept.{Kept}

-- after one block
on_same : (b : Block) (p next : ℕ) (f g : ℕ → ℕ → List KeptGrain) → ((q m : ℕ) → f q m ≡ g q m)
    → walk_on b p next f ≡ walk_on b p next g
unfolding walk_on
on_same Stop p next f g e = refl
on_same (Other k) p next f g e = e (p + k) next
on_same (Grain n k) p next f g e = ap (λ (l : List KeptGrain). kept_grain n p k ∷ l) (e (p + k) (n + 1))

module _ (s t : List ℕ) (both : SameSectors s t) where
  -- ---- 1 to 6
  fields_same : kdmv_fields s ≡ kdmv_fields t
  fields_same = kdmv_same s t (same_head s t both).fields.head

  kdmv_start_same : judge_kdmv_start s ≡ judge_kdmv_start t
  unfolding judge_kdmv_start
  kdmv_start_same = rw (← both.long, ← fields_same)

  judged_same : judge_start s ≡ judge_start t
  unfolding judge_start
  judged_same =
      let head = (same_head s t both).fields.head in
      rw (← both.long, ← string s t head 0 kdmv_magic (omega arith), ← string s t head 0 cowd_magic (omega arith))
      (pick_both ◌≡◌ _ _ _ _ _ (λ q. refl)
      (λ n.
      pick_both ◌≡◌ (same_at s 0 kdmv_magic) _ _ _ _ (λ m. kdmv_start_same)
      (λ m.
      pick_both ◌≡◌ (same_at s 0 cowd_magic) _ _ _ _ (λ c. judge_cowd_same s t (same_head s t both)) (λ c. refl))))

  start_same : start_of s ≡ start_of t
  start_same = ap (λ (k : KdmvFields). kdmv_header k k.directory) fields_same

  overhead_same : overhead s ≡ overhead t
  overhead_same = number_same s t 64 8 (below s t both 64 8 (omega (arith, both.some)))

  -- ---- the walk
  module _ (h : Header) where
    block_same : (p next : ℕ) → block_at s h p next ≡ block_at t h p next
    unfolding block_at if_whole
    block_same p next =
        rw (← both.long)
        (pick_both ◌≡◌ (leb (file_sectors s) p) _ _ _ _ (λ q. refl)
        (λ n.
        let low : p < file_sectors s = leb-false _ _ n in
        let size : marker_size s p ≡ marker_size t p =
        number_same s t (512 * p + 8) 4 (below s t both (512 * p + 8) 4 (omega arith)) in
        let type : marker_type s p ≡ marker_type t p =
        number_same s t (512 * p + 12) 4 (below s t both (512 * p + 12) 4 (omega arith)) in
        let first : marker_first s p ≡ marker_first t p =
        number_same s t (512 * p) 8 (below s t both (512 * p) 8 (omega arith)) in
        let takes = sectors_same s t true h.grain_size p (λ e. size) in
        rw (← size, ← type, ← first, ← takes)))

    walk_same : (n p next : ℕ) → walk s h n p next ≡ walk t h n p next
    unfolding walk
    walk_same zero p next = refl
    walk_same (suc n) p next =
        rw (← block_same p next) (on_same (block_at s h p next) p next (walk s h n) (walk t h n) (walk_same n))

    grains_same : kept_grains s h ≡ kept_grains t h
    grains_same = rw (← both.long, ← overhead_same) (walk_same (file_sectors s) (overhead s) 0)

    sectors_kept : kept_sectors s h ≡ kept_sectors t h
    sectors_kept =
        ap (λ (p : ℕ). grains_end p (kept_grains s h)) overhead_same
        ∙ ap (λ (l : List KeptGrain). grains_end (overhead t) l) grains_same

    -- ---- 41 and 21
    from_same : (room : ℕ) → close_from s h room ≡ close_from t h room
    unfolding close_from
    from_same room = rw (← grains_same, ← overhead_same, ← both.long)

    tail_same : tail_of s h ≡ tail_of t h
    tail_same =
        let some = both.some in
        let long = both.long in
        ap (λ (n : ℕ). tail_bytes s h n (kept_grains s h)) sectors_kept
        ∙ ap (λ (l : List KeptGrain). tail_bytes s h (kept_sectors t h) l) grains_same
        ∙ tail_alike s t
        (part_alike s t 0 56 (omega arith) (omega arith) (below s t both 0 56 (omega arith)))
        (part_alike s t 64 448 (omega arith) (omega arith) (below s t both 64 448 (omega arith))) h _ _

  closed_same : (room : ℕ) (a : Result Header Refusal) → close_judged s room a ≡ close_judged t room a
  unfolding close_judged
  closed_same room (Err r) = refl
  closed_same room (Ok h) = from_same h room

  pub never_used_close : (room : ℕ) → close s room ≡ close t room
  never_used_close room = ap (close_judged s room) judged_same ∙ closed_same room (judge_start t)

  pub never_used_tail : (out : List ℕ) → close_output s out ≡ close_output t out
  never_used_tail out =
      ap (λ (a : Result Kept Refusal). tail_written a (tail_of s (start_of s)) out) (never_used_close (length out))
      ∙ ap (λ (v : List ℕ). tail_written (close t (length out)) v out) (ap (tail_of s) start_same ∙ tail_same (start_of t))
