-- The loop that counts what is kept.
use Prim.Native.Nat.{ℕ, ◌+◌, ◌*◌, ◌/◌, ◌≤◌, ◌<◌}
use mathlib.Core.Path.{◌≡◌, refl, ◌∙◌}
use mathlib.Core.List.{List, [], ◌∷◌}
use mathlib.Core.Bool.{Bool, true, false, not}
use native.Mathlib.Omega.{arith}
use native.Mathlib.Nat.{zero-add}
use lib.ListN.{length}
use mir.Val.{bool_byte}
use Rattle.std.specs.Prelude.{Option, None, Some}
use Rattle.base.specs.Pick.{pick}
use Rattle.base.proofs.SumsBelow.{sum_none}
use Rattle.format.specs.Geometry.{file_sectors}
use Rattle.format.specs.Header.{directory_entries_of}
use Rattle.format.specs.Stream.{overhead, kept_grains, grains_end, kept_sectors}
use Rattle.format.specs.Tail.{has_grains, tables_below, new_tables}
use Rattle.format.specs.declared.Header.{Header}
use Rattle.format.proofs.StreamEntries.{table_more}
use Rattle.walk.specs.Walked.{Walkable, rest_of, next_in, GrainFrom, Standing, Next, Tallied}
use Rattle.walk.specs.declared.NextGrain.{NextGrain}
use Rattle.walk.proofs.WalkRest.{grain_of, rest_some, rest_none, rest_has}

no_tables : (n : ℕ) → tables_below [] n ≡ 0
unfolding has_grains pick
no_tables n = sum_none n _ (λ d b. refl)

-- 1 for a table that ends
pub one_most : (one : ℕ) (b : Bool) → one ≡ bool_byte b → one ≤ 1
one_most one true e = omega arith
one_most one false e = omega arith

ends : (b : Bool) → bool_byte (not b) ≡ pick b 0 1
unfolding pick
ends true = refl
ends false = refl

-- what was counted and what is left make up the whole
pub record Counting (s : List ℕ) (h : Header) (sectors grains tables : ℕ) (next : Option NextGrain) : Type 0 where
  pub standing : Standing s h grains next
  pub ends : grains_end sectors (rest_of s h next) ≡ kept_sectors s h
  pub all : grains + length (rest_of s h next) ≡ length (kept_grains s h)
  pub both : tables + tables_below (rest_of s h next) (directory_entries_of h) ≡ new_tables h (kept_grains s h)
  pub fewer : tables ≤ grains
  pub here : sectors ≤ file_sectors s

module _ (s : List ℕ) (h : Header) (w : Walkable h) where
  pub counting_starts : (p : ℕ) (next : Option NextGrain) → p ≡ overhead s → overhead s ≤ file_sectors s → Next s h p 0 next
      → Counting s h p 0 0 next
  counting_starts p next e b n =
      let q : rest_of s h next ≡ kept_grains s h = n.is ∙ rw e in
      record {
        standing = n.standing;
        ends = rw (q, e);
        all = rw q (zero-add _);
        both = rw q (zero-add _);
        fewer = omega arith;
        here = omega arith;
      }

  module _ (sectors grains tables : ℕ) (next : Option NextGrain) (k : Counting s h sectors grains tables next) where
    module _ (c : NextGrain) (is : next ≡ Some c) where
      -- the grain, and where the walk goes on
      pub counted : GrainFrom s h grains c
      counted = k.standing.grain c is

      module _ (a : Option NextGrain) (n : Next s h (c.sector + c.sectors) (c.number + 1) a) where
        left : rest_of s h next ≡ grain_of c ∷ rest_of s h a
        left = rest_some s h next c is ∙ rw n.is

        pub counting_less : length (rest_of s h a) < length (rest_of s h next)
        counting_less = rw left (omega arith)

        pub counting_on : (in_table : Bool) (last : ℕ) → in_table ≡ next_in a (c.number / 512) → last ≡ bool_byte (not in_table)
            → Counting s h (c.sector + c.sectors) (grains + 1) (tables + last) a
        unfolding grains_end
        counting_on in_table last i e =
            let g = counted in
            let at_end = rw left at k.ends in
            let all = rw left at k.all in
            let both = rw left at k.both in
            let more = table_more (grain_of c) (rest_of s h a) (directory_entries_of h) g.used in
            let t : Standing s h (512 * (c.number / 512)) a =
            record {
              grain = λ r q. let z = n.standing.grain r q in
                  record { low = omega (arith, z.low); high = z.high; used = z.used; here = z.here };
            } in
            let m = rw (rest_has s h w a (c.number / 512) t) at more in
            let one : last ≡ pick (next_in a (c.number / 512)) 0 1 = e ∙ ends in_table ∙ rw i in
            record {
              standing = record {
                grain = λ r q. let z = n.standing.grain r q in
                    record { low = omega (arith, z.low, g.low); high = z.high; used = z.used; here = z.here };
              };
              ends = at_end;
              all = omega arith;
              both = omega (arith, m);
              fewer = omega (arith, k.fewer, one_most _ _ e);
              here = g.here;
            }

    pub counting_ends : next ≡ None → Tallied s h (record { sectors = sectors; grains = grains; tables = tables })
    unfolding grains_end
    counting_ends z =
        let q = rest_none s h next z in
        let at_end = rw q at k.ends in
        let all = rw q at k.all in
        let both = rw q at k.both in
        record {
          sectors = at_end;
          grains = omega arith;
          tables = omega (arith, both, no_tables (directory_entries_of h));
          few = k.here;
        }
