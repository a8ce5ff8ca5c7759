-- A chain of one layer: the chain lookup tells what the lookup tells, and names layer 0.
use Prim.Native.Nat.{ℕ}
use mathlib.Core.Path.{◌≡◌, refl, sym, ap, ◌∙◌}
use mathlib.Core.List.{List, [], ◌∷◌}
use mathlib.Core.Bool.{false}
use mathlib.Core.Logic.{⊎_elim}
use native.Mathlib.Nat.{add-zero}
use lib.Dec.{leb}
use lib.ListN.{length}
use lib.Seq.{take-length}
use borrow.Author.Tests.{leb-true, eq-eqb}
use Rattle.base.specs.Pick.{pick}
use Rattle.base.proofs.Steps.{true_or_false}
use Rattle.format.specs.Header.{header_of, judge}
use Rattle.format.specs.Entries.{any_below}
use Rattle.format.specs.Source.{lookup_in, lookup_from, sector_lookup}
use Rattle.format.specs.Chain.{lengths_sum, layer_at, lengths_broken, if_known, headers_down, layers_differ, unless_absent}
use Rattle.format.specs.Chain.{walk_down}
use Rattle.format.specs.Chain.{walk, chain_lookup}
use Rattle.format.specs.Answers.{located, chained}
use Rattle.format.specs.declared.Header.{Header}
use Rattle.format.specs.declared.Source.TheVariants.{Absent, Zero, Stored, Packed}
use Rattle.format.specs.declared.Refusal.TheVariants.{SectorPast}
use Rattle.format.proofs.Picked.{pick_then, pick_else}
use Rattle.format.proofs.HeaderJudged.{judged_header}
use Rattle.format.proofs.LayersAt.{like}
use Rattle.laws.proofs.ServedLookup.{past_in}
use Rattle.std.specs.Prelude.{Result, Ok, Err}
use Rattle.format.specs.declared.Source.{Source}
use Rattle.format.specs.declared.LayerSource.{LayerSource}
use Rattle.format.specs.declared.LayerRefusal.{LayerRefusal}
use Rattle.format.specs.declared.Refusal.{Refusal}
use Rattle.format.specs.AnswerParts.{refused_at}

-- the one layer is the whole slice
one_layer : (s : List ℕ) → layer_at s (length s ∷ []) 0 ≡ s
unfolding lengths_sum
one_layer s = take-length s

-- its length is the slice's
one_length : (s : List ℕ) → lengths_broken 16 s (length s ∷ []) ≡ false
unfolding lengths_sum
one_length s = rw (eq-eqb _ _ (add-zero (length s)))

-- it has its own capacity and grain size
one_alike : (s : List ℕ) → layers_differ s (length s ∷ []) ≡ false
unfolding any_below
one_alike s = like _ _ refl refl

-- an answer of the lookup, and the absent one under it
one_told : (a : Result Source Refusal) → chained (unless_absent 0 a (Ok (record { layer = 0; source = Absent }))) ≡ located a
unfolding unless_absent
one_told (Ok Absent) = refl
one_told (Ok Zero) = refl
one_told (Ok (Stored sector)) = refl
one_told (Ok (Packed marker size o)) = refl
one_told (Err r) = refl

module _ (s : List ℕ) (x : ℕ) where
  past_told : (h : Header) → judge s ≡ Ok h → (below : Result LayerSource LayerRefusal) → below
      ≡ unless_absent 0 (sector_lookup s x) (Ok (record { layer = 0; source = Absent }))
      → chained (pick (leb (header_of s).capacity x) (refused_at 0 SectorPast) below) ≡ located (lookup_in s h x)
  unfolding lookup_from
  past_told h e below is =
      let q : leb (header_of s).capacity x ≡ leb h.capacity x = rw (judged_header s h e) in
      ⊎_elim
      (λ t. ap chained (pick_then _ _ _ (q ∙ t)) ∙ sym (ap located (past_in s h x (leb-true _ _ t))))
      (λ f. ap chained (pick_else _ _ _ (q ∙ f) ∙ is) ∙ one_told (sector_lookup s x)
      ∙ ap (λ (a : Result Header Refusal). located (lookup_from s x a)) e)
      (true_or_false (leb h.capacity x))

  walked : (h : Header) → judge s ≡ Ok h → chained (walk s (length s ∷ []) x) ≡ located (lookup_from s x (Ok h))
  unfolding walk walk_down lookup_from
  walked h e = ap chained (pick_else _ _ _ (one_alike s)) ∙ rw (one_layer s) (past_told h e _ refl)

  one_judged : (a : Result Header Refusal) → judge s ≡ a → chained (if_known 0 a (walk s (length s ∷ []) x)) ≡ located
      (lookup_from s x a)
  unfolding if_known lookup_from
  one_judged (Err r) e = refl
  one_judged (Ok h) e = walked h e

  -- a chain of one layer is answered as its lookup is, and names layer 0
  pub chain_of_one : chained (chain_lookup s (length s ∷ []) x) ≡ located (sector_lookup s x)
  unfolding chain_lookup headers_down
  chain_of_one =
      ap chained (pick_else _ _ _ (one_length s)) ∙ rw (one_layer s) (one_judged (judge s) refl)
