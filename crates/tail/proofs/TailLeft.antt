-- What is left of the walk as entries are written, grain by grain.
use Prim.Native.Nat.{ℕ, ◌+◌, ◌*◌, ◌≤◌}
use mathlib.Core.Path.{◌≡◌, ◌∙◌}
use mathlib.Core.List.{List, ◌∷◌}
use mathlib.Core.Bool.{false}
use native.Mathlib.Omega.{arith}
use Rattle.std.specs.Prelude.{Option, Some}
use Rattle.format.specs.Geometry.{file_sectors}
use Rattle.format.specs.Stream.{overhead, kept_grains}
use Rattle.format.specs.Tail.{kept_entry, has_grains}
use Rattle.format.specs.declared.Header.{Header}
use Rattle.format.proofs.StreamEntries.{entry_first, entry_other, has_other}
use Rattle.walk.specs.Walked.{rest_of, next_in, Standing, Next}
use Rattle.walk.specs.declared.NextGrain.{NextGrain}
use Rattle.walk.proofs.WalkRest.{grain_of, after_of, rest_some, past_table, rest_entry, rest_has}
use Rattle.tail.specs.TailPut.{Walking, Left}

-- at the start all is left
pub left_all : (s : List ℕ) (h : Header) (p : ℕ) (next : Option NextGrain) → p ≡ overhead s → Next s h p 0 next
    → Left s h 0 next
left_all s h p next e n =
    let q : rest_of s h next ≡ kept_grains s h = n.is ∙ rw e in
    record { standing = n.standing; entries = λ i b. rw q; tables = λ d b. rw q }

module _ (s : List ℕ) (h : Header) (w : Walking s h) (g : ℕ) (next : Option NextGrain) (l : Left s h g next) where
  -- ---- g is the next grain
  module _ (c : NextGrain) (is : next ≡ Some c) (e : c.number ≡ g) where
    pub here : c.sector + c.sectors ≤ file_sectors s
    here = (l.standing.grain c is).here

    rest : rest_of s h next ≡ grain_of c ∷ after_of s h c
    rest = rest_some s h next c is

    pub left_here : kept_entry (kept_grains s h) g ≡ c.sector
    left_here = l.entries g (omega arith) ∙ rw (rest, ← e) (entry_first (grain_of c) (after_of s h c))

    pub left_next : (r : Option NextGrain) → Next s h (c.sector + c.sectors) (g + 1) r → Left s h (g + 1) r
    left_next r n =
        let q : rest_of s h next ≡ grain_of c ∷ rest_of s h r = rest ∙ rw (n.is, e) in
        record {
          standing = n.standing;
          entries = λ i k. l.entries i (omega arith) ∙ rw q (entry_other (grain_of c) (rest_of s h r) i (omega arith));
          tables = λ d k. l.tables d (omega arith) ∙ rw q (has_other (grain_of c) (rest_of s h r) d (omega arith));
        }

  -- ---- it is not
  -- from a higher number on, up to the next grain's
  pub left_past : (m : ℕ) → g ≤ m → Standing s h m next → Left s h m next
  left_past m a t = record {
    standing = t;
    entries = λ i k. l.entries i (omega arith);
    tables = λ d k. l.tables d (omega arith);
  }

  module _ (n : (c : NextGrain) → next ≡ Some c → c.number ≡ g → ⊥) where
    above : Standing s h (g + 1) next
    above = record {
      grain = λ c is.
          let t = l.standing.grain c is in
          let k : c.number ≡ g → ⊥ = n c is in
          record { low = omega (arith, t.low); high = t.high; used = t.used; here = t.here };
    }

    pub left_absent : kept_entry (kept_grains s h) g ≡ 0
    left_absent = l.entries g (omega arith) ∙ rest_entry s h w.walkable next g above

    pub left_on : Left s h (g + 1) next
    left_on = left_past (g + 1) (omega arith) above

-- ---- whether a directory entry has grains
module _ (s : List ℕ) (h : Header) (w : Walking s h) (d : ℕ) (next : Option NextGrain) (l : Left s h (512 * d) next) where
  pub has_next : has_grains (kept_grains s h) d ≡ next_in next d
  has_next = l.tables d (omega arith) ∙ rest_has s h w.walkable next d l.standing

  pub left_later : next_in next d ≡ false → Left s h (512 * d + 512) next
  left_later n =
      left_past s h w (512 * d) next l (512 * d + 512) (omega arith) (past_table s h next d l.standing n)
