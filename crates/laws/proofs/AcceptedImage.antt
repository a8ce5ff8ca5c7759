-- The check accepts an image exactly when every layout rule of KDMV holds. Demand 2, first sentence. The check that the moves
-- keep accepts either kind so.
use Prim.Native.Nat.{ℕ}
use mathlib.Core.Path.{◌≡◌, ◌∙◌}
use mathlib.Core.List.{List}
use mathlib.Core.Logic.{⊎_elim}
use Rattle.format.specs.Header.{kdmv_header_of, cowd_header_of, header_of, judge_of}
use Rattle.format.specs.Check.{check_layout, check_from, check_of, check}
use Rattle.format.specs.Accepted.{AreaRules, AcceptedKdmv, Accepted}
use Rattle.format.specs.Accepted.Accepted.{kdmv, cowd}
use Rattle.format.specs.declared.Taken.{Taken}
use Rattle.format.specs.declared.Taken.TheVariants.{KdmvAlone, Either}
use Rattle.format.specs.declared.Header.{Header}
use Rattle.format.proofs.Passed.{header_passed}
use Rattle.format.proofs.HeaderJudged.{taken_rules, judged_rules, taken_header, taken_kdmv, cowd_known, kdmv_is, cowd_is}
use Rattle.format.proofs.Filed.{taken_front}
use Rattle.laws.proofs.AcceptedLayout.{layout_sound, layout_complete}
use Rattle.std.specs.Prelude.{Ok}
use Rattle.format.specs.AnswerParts.{accepted_as}

-- ---- what the check of an image with a known header is
known_check : (taken : Taken) (s : List ℕ) (h : Header) → judge_of taken s ≡ Ok h → check_of taken s ≡ check_layout s h
unfolding check_from
known_check taken s h e = rw e

-- what an accepting check tells: a judged header, whose areas keep their rules, with its capacity and grain size
record Told (taken : Taken) (s : List ℕ) (c g : ℕ) : Type 0 where
  header : Header
  judged : judge_of taken s ≡ Ok header
  areas : AreaRules s header
  capacity : c ≡ (header_of s).capacity
  size : g ≡ (header_of s).grain_size

module _ (s : List ℕ) where
  told : (taken : Taken) (c g : ℕ) → check_of taken s ≡ accepted_as c g → Told taken s c g
  told taken c g e =
      let k = header_passed s (judge_of taken s) c g e in
      let l = layout_sound s k.0 (taken_front s k.0 taken k.1) c g k.2 in
      let is : k.0 ≡ header_of s = taken_header s taken k.0 k.1 in
      record { header = k.0; judged = k.1; areas = l.0; capacity = rw is at l.1; size = rw is at l.2 }

  -- what the check accepts keeps every layout rule of KDMV, and it tells the header's capacity and grain size
  pub accepted_sound : (c g : ℕ) → check s ≡ accepted_as c g → (AcceptedKdmv s) × (c ≡ (header_of s).capacity)
      × (g ≡ (header_of s).grain_size)
  accepted_sound c g e =
      let k = told KdmvAlone c g e in
      let r = judged_rules s k.header k.judged in
      (record { rules = r.0; areas = rw r.1 at k.areas }, k.capacity, k.size)

  -- an image that keeps every layout rule of KDMV is accepted
  taken_complete : (taken : Taken) → AcceptedKdmv s
      → check_of taken s ≡ accepted_as (header_of s).capacity (header_of s).grain_size
  taken_complete taken a =
      rw (kdmv_is s a.rules)
      (known_check taken s (kdmv_header_of s) (taken_kdmv s taken a.rules) ∙ layout_complete s (kdmv_header_of s) a.areas)

  pub accepted_complete : AcceptedKdmv s → check s ≡ accepted_as (header_of s).capacity (header_of s).grain_size
  accepted_complete a = taken_complete KdmvAlone a

  -- ---- the check that the moves keep: an image of either kind
  pub either_sound : (c g : ℕ) → check_of Either s ≡ accepted_as c g → (Accepted s) × (c ≡ (header_of s).capacity)
      × (g ≡ (header_of s).grain_size)
  either_sound c g e =
      let k = told Either c g e in (
        ⊎_elim (λ r. kdmv r.0 (rw r.1 at k.areas)) (λ r. cowd r.1 (rw r.2 at k.areas))
            (taken_rules s Either k.header k.judged),
        k.capacity,
        k.size,
      )

  pub either_complete : Accepted s → check_of Either s ≡ accepted_as (header_of s).capacity (header_of s).grain_size
  either_complete (kdmv r a) = taken_complete Either (record { rules = r; areas = a })
  either_complete (cowd r a) =
      rw (cowd_is s r) (known_check Either s (cowd_header_of s) (cowd_known s r) ∙ layout_complete s (cowd_header_of s) a)
