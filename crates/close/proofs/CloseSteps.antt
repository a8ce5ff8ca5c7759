-- What each part answers and leaves in the output, each premise as the code gives it.
use Prim.Native.Nat.{ℕ, ◌+◌, ◌*◌, ◌≤◌, ◌<◌}
use mathlib.Core.Path.{◌≡◌, refl, sym, ap, ◌∙◌}
use mathlib.Core.List.{List}
use mathlib.Core.Bool.{Bool, true, false}
use native.Mathlib.Omega.{arith}
use lib.ListN.{length}
use Rattle.base.specs.Pick.{pick}
use Rattle.base.specs.Bytes.{over}
use Rattle.base.proofs.Steps.{stop, skip, stop_lt, skip_lt}
use Rattle.format.specs.Header.{start_of, judge_start}
use Rattle.format.specs.Stream.{kept_grains, kept_sectors}
use Rattle.format.specs.Close.{not_closable, tail_of, tail_length, close_from, close_judged, close, tail_written, close_output}
use Rattle.format.specs.declared.Header.{Header}
use Rattle.format.specs.declared.Refusal.{Refusal}
use Rattle.format.specs.declared.Refusal.TheVariants.{TooLittleRoom, NotClosable}
use Rattle.format.proofs.HeaderStart.{started}
use Rattle.walk.specs.Walked.{Tallied}
use Rattle.walk.specs.declared.Counted.{Counted}
use Rattle.close.specs.ClosedAs.{closed_if_room, ClosedAs}
use Rattle.std.specs.Prelude.{Result, Ok, Err}
use Rattle.format.specs.declared.closing.Kept.{Kept}
use Rattle.format.specs.AnswerParts.{closed_as}

-- a refusal leaves the output as it was
refused : (a : Result Kept Refusal) (tail d : List ℕ) (r : Refusal) → Err r ≡ a → ClosedAs a tail d (Err r) d
unfolding tail_written
refused a tail d r e = record { told = e; left = rw (← e) }

-- ---- 21
module _ (s : List ℕ) (h : Header) (kept : Counted) (t : Tallied s h kept) (d : List ℕ) (room : ℕ) where
  abbrev long : ℕ
  long = 512 * (5 * kept.tables + h.directory_sectors + 4)

  pub too_short : room < long → ClosedAs (closed_if_room s h room) (tail_of s h) d (Err TooLittleRoom) d
  too_short b =
      let l : room < tail_length s h = omega (arith, t.tables) in
      refused _ (tail_of s h) d TooLittleRoom (stop_lt _ _ _ room (tail_length s h) l refl)

  closed : closed_as kept.sectors kept.grains long ≡ closed_as (kept_sectors s h) (length (kept_grains s h)) (tail_length s h)
  closed = rw (t.sectors, t.grains, t.tables)

  pub written : long ≤ room → (x : List ℕ) → x ≡ over d 0 (tail_of s h)
      → ClosedAs (closed_if_room s h room) (tail_of s h) d (closed_as kept.sectors kept.grains long) x
  unfolding tail_written
  written b x p =
      let l : tail_length s h ≤ room = omega (arith, t.tables) in
      let told : closed_as kept.sectors kept.grains long ≡ closed_if_room s h room =
      skip_lt _ _ _ room (tail_length s h) l closed in
      record { told = told; left = rw (← told) p }

-- ---- 41
module _ {b : Bool} (s : List ℕ) (h : Header) (room : ℕ) (d : List ℕ) (e : b ≡ not_closable s h) where
  pub not_taken : b ≡ true → ClosedAs (close_from s h room) (tail_of s h) d (Err NotClosable) d
  unfolding close_from
  not_taken t = refused _ (tail_of s h) d NotClosable (stop _ _ _ e t refl)

  pub taken : b ≡ false → {r : Result Kept Refusal} {x : List ℕ} → ClosedAs (closed_if_room s h room) (tail_of s h) d r x
      → ClosedAs (close_from s h room) (tail_of s h) d r x
  unfolding close_from
  taken f p =
      let q : closed_if_room s h room ≡ close_from s h room = skip _ _ _ e f refl in
      rw (← q) p

-- ---- the header
-- the tail is that of the start's own header
own_tail : (s : List ℕ) (h : Header) (room : ℕ) (d : List ℕ) → judge_start s ≡ Ok h
    → tail_written (close_from s h room) (tail_of s h) d ≡ tail_written (close_from s h room) (tail_of s (start_of s)) d
own_tail s h room d e = ap (λ (k : Header). tail_written (close_from s h room) (tail_of s k) d) (started s h e).is

module _ (a : Result Header Refusal) (s d : List ℕ) (e : a ≡ judge_start s) where
  pub unknown_refused : (r : Refusal) → a ≡ Err r
      → (Err r ≡ close s (length d)) × (d ≡ close_output s d)
  unfolding close_judged tail_written
  unknown_refused r q = (rw (← e, q), rw (← e, q))

  pub known_closed : (h : Header) (r : Result Kept Refusal) (x : List ℕ) → a ≡ Ok h
      → ClosedAs (close_from s h (length d)) (tail_of s h) d r x
      → (r ≡ close s (length d)) × (x ≡ close_output s d)
  unfolding close_judged
  known_closed h r x q p =
      (rw (← e, q) p.told, rw (← e, q) (p.left ∙ own_tail s h (length d) d (sym e ∙ q)))
