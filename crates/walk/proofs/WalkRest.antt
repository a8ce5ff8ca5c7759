-- What is left of the walk from its next grain on: that grain and what comes after it, or nothing.
use Prim.Native.Nat.{ℕ, ◌+◌, ◌*◌, ◌/◌, ◌≤◌, ◌<◌}
use mathlib.Core.Path.{◌≡◌, refl, sym, ◌∙◌}
use mathlib.Core.List.{List, [], ◌∷◌}
use mathlib.Core.Bool.{false}
use mathlib.Core.Logic.{⊎_elim}
use native.Mathlib.Omega.{arith}
use lib.Dec.{eqb}
use borrow.Author.Tests.{eq-eqb, ne_eqb, eqb-false}
use Rattle.std.specs.Prelude.{Option, None, Some}
use Rattle.base.proofs.Steps.{lt_or_ge}
use Rattle.format.specs.Geometry.{file_sectors}
use Rattle.format.specs.Stream.{KeptGrain, kept_grain, walk_from}
use Rattle.format.specs.Tail.{kept_entry, has_grains}
use Rattle.format.specs.declared.Header.{Header}
use Rattle.format.proofs.StreamKept.{Ascends, walk_ascends}
use Rattle.format.proofs.StreamEntries.{has_first, has_other, has_none, entry_other, entry_none}
use Rattle.walk.specs.Walked.{Walkable, rest_of, next_in, Standing}
use Rattle.walk.specs.declared.NextGrain.{NextGrain}

abbrev pub grain_of : NextGrain → KeptGrain
grain_of c = kept_grain c.number c.sector c.sectors

abbrev pub after_of : List ℕ → Header → NextGrain → List KeptGrain
after_of s h c = walk_from s h (c.sector + c.sectors) (c.number + 1)

module _ (s : List ℕ) (h : Header) (next : Option NextGrain) where
  pub rest_some : (c : NextGrain) → next ≡ Some c → rest_of s h next ≡ grain_of c ∷ after_of s h c
  unfolding rest_of
  rest_some c e = rw e

  pub rest_none : next ≡ None → rest_of s h next ≡ []
  unfolding rest_of
  rest_none e = rw e

-- the next grain is the table's after, where it is not the table's of directory entry d
pub past_table : (s : List ℕ) (h : Header) (next : Option NextGrain) (d : ℕ) → Standing s h (512 * d) next
    → next_in next d ≡ false → Standing s h (512 * d + 512) next
past_table s h None d t e = record { grain = λ c q. cc }
past_table s h (Some c) d t e = record {
  grain = λ r q.
      let g = t.grain r q in
      let i : c ≡ r = cc in
      let n : r.number / 512 ≡ d → ⊥ = eqb-false (r.number / 512) d (rw i at e) in
      record { low = omega (arith, g.low); high = g.high; used = g.used; here = g.here };
}

module _ (s : List ℕ) (h : Header) (w : Walkable h) where
  module _ (c : NextGrain) where
    after_ascends : Ascends s h (c.sector + c.sectors) (c.number + 1) (after_of s h c)
    after_ascends = walk_ascends s h w.sizes.low (file_sectors s) _ _

    -- the lowest directory entry that may have grains has the next one, or none
    has_here : (d : ℕ) → 512 * d ≤ c.number → c.number < 512 * d + 512 → has_grains (grain_of c ∷ after_of s h c) d
        ≡ eqb (c.number / 512) d
    has_here d a b =
        let e : c.number / 512 ≡ d = omega arith in
        rw (← e) (has_first (grain_of c) (after_of s h c) ∙ sym (eq-eqb (c.number / 512) (c.number / 512) refl))

    has_later : (d : ℕ) → 512 * d + 512 ≤ c.number → has_grains (grain_of c ∷ after_of s h c) d ≡ eqb (c.number / 512) d
    has_later d b =
        has_other (grain_of c) (after_of s h c) d (omega arith) ∙ has_none s h after_ascends d (omega arith)
        ∙ sym (ne_eqb (c.number / 512) d (omega arith))

  -- a lower number has no entry
  pub rest_entry : (next : Option NextGrain) (g : ℕ) → Standing s h (g + 1) next → kept_entry (rest_of s h next) g ≡ 0
  unfolding kept_entry rest_of
  rest_entry None g t = refl
  rest_entry (Some c) g t =
      let p = t.grain c refl in
      entry_other (grain_of c) (after_of s h c) g (omega (arith, p.low))
      ∙ entry_none s h (after_ascends c) g (omega (arith, p.low))

  pub rest_has : (next : Option NextGrain) (d : ℕ) → Standing s h (512 * d) next
      → has_grains (rest_of s h next) d ≡ next_in next d
  unfolding has_grains rest_of
  rest_has None d t = refl
  rest_has (Some c) d t =
      let p = t.grain c refl in
      ⊎_elim (λ b. has_here c d p.low b) (λ b. has_later c d b) (lt_or_ge c.number (512 * d + 512))
