-- Refusal 8 with its place is handed on by collapse, normal form, profile and mending, as the check gives it, and by the chain,
-- as the lookup gives it; a lookup's place is 2 or 4 (request A8).
use Prim.Native.Nat.{ℕ, zero, suc, ◌≤◌}
use mathlib.Core.Path.{◌≡◌, refl, ap}
use mathlib.Core.List.{List}
use mathlib.Core.Bool.{Bool, true, false}
use mathlib.Core.Logic.{◌⊎◌, inl, inr}
use native.Mathlib.Omega.{arith}
use lib.Dec.{eqb, lit≤}
use lib.ListN.{length}
use Rattle.base.specs.Pick.{pick}
use Rattle.base.proofs.Steps.{cond_all}
use Rattle.format.specs.Header.{judge}
use Rattle.format.specs.Check.{misplaced, lowest_misplaced, check_grains, check_layout, check_from, check}
use Rattle.format.specs.Source.{lookup_in, lookup_from, sector_lookup}
use Rattle.format.specs.Chain.{layer_at, if_known, headers_down, unless_absent, walk_down, walk, chain_lookup}
use Rattle.format.specs.Collapse.{if_accepted, normal, collapse}
use Rattle.format.specs.Profile.{profile_if_accepted, profile}
use Rattle.format.specs.Mend.{from_good, mended_if_room, mend_good, mend_from, mend}
use Rattle.format.specs.Answers.{number, place}
use Rattle.format.specs.declared.Header.{Header}
use Rattle.format.specs.declared.Side.{Side}
use Rattle.format.specs.declared.Source.TheVariants.{Absent, Zero, Stored, Packed}
use Rattle.format.specs.declared.Refusal.{Refusal}
use Rattle.format.specs.declared.Refusal.TheVariants.{Misplaced, NotMendable}
use Rattle.format.proofs.HeaderRefusals.{judge_refuses}
use Rattle.laws.proofs.FrameChecked.{layout_handed}
use Rattle.laws.proofs.LookupPlain.{lookup_plain}
use Rattle.std.specs.Prelude.{Result, Ok, Err}
use Rattle.format.specs.declared.Source.{Source}
use Rattle.format.specs.declared.LayerSource.{LayerSource}
use Rattle.format.specs.declared.LayerRefusal.{LayerRefusal}
use Rattle.format.specs.AnswerParts.{accepted_as}
use Rattle.format.specs.AnswerParts.{refused_at}

-- ---- collapse and normal form: whatever the check refuses, the lower's before the upper's
module _ (r : Refusal) (room : ℕ) where
  pub normal_handed : (s : List ℕ) → check s ≡ Err r → normal s room ≡ Err r
  unfolding if_accepted
  normal_handed s e = rw e

  pub lower_handed : (lower upper : List ℕ) → check lower ≡ Err r → collapse lower upper room ≡ Err r
  unfolding if_accepted
  lower_handed lower upper e = rw e

  pub upper_handed : (lower upper : List ℕ) (c size : ℕ) → check lower ≡ accepted_as c size → check upper ≡ Err r
      → collapse lower upper room ≡ Err r
  unfolding if_accepted
  upper_handed lower upper c size a e = rw (a, e)

-- ---- the profile: whatever the check refuses
pub profile_handed : (s : List ℕ) (r : Refusal) → check s ≡ Err r → profile s ≡ Err r
unfolding profile_if_accepted
profile_handed s r e = rw e

-- ---- mending: 1 to 8, both ways; past 8 only 40 and 21 are given
abbrev LateMend : Result ℕ Refusal → Type 0
LateMend (Ok count) = Unit
LateMend (Err r) = 21 ≤ number r

late_next : (s : List ℕ) (side : Side) (room : ℕ) (h : Header)
    → LateMend (pick (eqb h.redundant 0) (Err NotMendable) (mend_good s (from_good side h) room))
unfolding mend_good mended_if_room
late_next s side room h =
    cond_all LateMend _ _ _ (λ a. lit≤ tt)
    (λ a. cond_all LateMend _ _ _ (λ b. lit≤ tt) (λ b. cond_all LateMend _ _ _ (λ c. lit≤ tt) (λ c. tt)))

module _ (s : List ℕ) (side : Side) (room : ℕ) (r : Refusal) (low : number r ≤ 8) where
  mend_from_check : (a : Result Header Refusal) → check_from s a ≡ Err r → mend_from s side room a ≡ Err r
  unfolding check_from mend_from
  mend_from_check (Err q) e = let same : q ≡ r = cc in ap Err same
  mend_from_check (Ok h) e = layout_handed Err s h r _ low e

  pub mend_as_check : check s ≡ Err r → mend s side room ≡ Err r
  mend_as_check e = mend_from_check (judge s) e

  layout_from_mend : (h : Header) (next : Result ℕ Refusal) (b : Bool) → LateMend next
      → pick b (Err (Misplaced (lowest_misplaced s h))) next ≡ Err r
      → pick b (Err (Misplaced (lowest_misplaced s h))) (check_grains s h) ≡ Err r
  unfolding pick
  layout_from_mend h next true late e = let same : Misplaced (lowest_misplaced s h) ≡ r = cc in ap Err same
  layout_from_mend h next false late e = absurd (omega (arith, rw e at late))

  check_from_mend : (a : Result Header Refusal) → mend_from s side room a ≡ Err r → check_from s a ≡ Err r
  unfolding check_from check_layout mend_from
  check_from_mend (Err q) e = let same : q ≡ r = cc in ap Err same
  check_from_mend (Ok h) e = layout_from_mend h _ (misplaced s h) (late_next s side room h) e

  pub check_as_mend : mend s side room ≡ Err r → check s ≡ Err r
  check_as_mend e = check_from_mend (judge s) e

-- ---- the lookup
-- an 8 has place 2 or 4
abbrev TwoOrFour : Refusal → Type 0
TwoOrFour r = number r ≡ 8 → (place r ≡ 2) ⊎ (place r ≡ 4)

abbrev LookupPlaces : Result Source Refusal → Type 0
LookupPlaces (Ok source) = Unit
LookupPlaces (Err r) = TwoOrFour r

places_in : (s : List ℕ) (h : Header) (x : ℕ) → LookupPlaces (lookup_in s h x)
places_in s h x =
    rw lookup_plain
    (cond_all LookupPlaces _ _ _ (λ a e. absurd (omega arith))
    (λ a.
    cond_all LookupPlaces _ _ _ (λ b e. inl refl)
    (λ b.
    cond_all LookupPlaces _ _ _ (λ c e. inr refl)
    (λ c.
    cond_all LookupPlaces _ _ _ (λ d e. absurd (omega arith))
    (λ d. cond_all LookupPlaces _ _ _ (λ i e. absurd (omega arith)) (λ i. tt))))))

places_from : (s : List ℕ) (x : ℕ) (a : Result Header Refusal) → judge s ≡ a → LookupPlaces (lookup_from s x a)
unfolding lookup_from
places_from s x (Err r) j = λ e. absurd (judge_refuses s r j 8 (omega arith) (omega arith) e)
places_from s x (Ok h) j = places_in s h x

pub lookup_eight : (s : List ℕ) (x : ℕ) (r : Refusal) → sector_lookup s x ≡ Err r → number r ≡ 8
    → (place r ≡ 2) ⊎ (place r ≡ 4)
lookup_eight s x r e = rw e at (places_from s x (judge s) refl)

-- ---- the chain: an 8 is the lookup's in the layer that is named
module _ (s lengths : List ℕ) (x : ℕ) where
  abbrev ByLayer : Result LayerSource LayerRefusal → Type 0
  ByLayer (Ok a) = Unit
  ByLayer (Err refused) = number refused.refusal ≡ 8 → sector_lookup (layer_at s lengths refused.layer) x ≡ Err refused.refusal

  header_by : (k : ℕ) (h : Result Header Refusal) (below : Result LayerSource LayerRefusal) → judge (layer_at s lengths k)
      ≡ h → ByLayer below
      → ByLayer (if_known k h below)
  unfolding if_known
  header_by k (Err r) below j w = λ e. absurd (judge_refuses (layer_at s lengths k) r j 8 (omega arith) (omega arith) e)
  header_by k (Ok h) below j w = w

  headers_by : (n : ℕ) (a : Result LayerSource LayerRefusal) → ByLayer a → ByLayer (headers_down s lengths n a)
  unfolding headers_down
  headers_by zero a w = w
  headers_by (suc k) a w = header_by k (judge (layer_at s lengths k)) _ refl (headers_by k a w)

  layer_by : (k : ℕ) (a : Result Source Refusal) (below : Result LayerSource LayerRefusal)
      → sector_lookup (layer_at s lengths k) x ≡ a → ByLayer below
      → ByLayer (unless_absent k a below)
  unfolding unless_absent
  layer_by k (Err r) below e w = λ n. e
  layer_by k (Ok Absent) below e w = w
  layer_by k (Ok Zero) below e w = tt
  layer_by k (Ok (Stored sector)) below e w = tt
  layer_by k (Ok (Packed marker size o)) below e w = tt

  walk_by : (n : ℕ) → ByLayer (walk_down s lengths x n)
  unfolding walk_down
  walk_by zero = tt
  walk_by (suc k) = layer_by k (sector_lookup (layer_at s lengths k) x) _ refl (walk_by k)

  chain_by : ByLayer (chain_lookup s lengths x)
  unfolding chain_lookup walk
  chain_by =
      cond_all ByLayer _ _ _ (λ a e. absurd (omega arith))
      (λ a.
      headers_by (length lengths) _
      (cond_all ByLayer _ _ _ (λ b e. absurd (omega arith))
      (λ b. cond_all ByLayer _ _ _ (λ c e. absurd (omega arith)) (λ c. walk_by (length lengths)))))

  module _ (k : ℕ) (r : Refusal) (e : chain_lookup s lengths x ≡ refused_at k r) (eight : number r ≡ 8) where
    pub chain_handed : sector_lookup (layer_at s lengths k) x ≡ Err r
    chain_handed = (rw e at chain_by) eight

    pub chain_eight : (place r ≡ 2) ⊎ (place r ≡ 4)
    chain_eight = lookup_eight (layer_at s lengths k) x r chain_handed eight
