-- A step of the walk, as the code takes it, and what is left from the next grain on.
use Prim.Native.Nat.{ℕ, suc, ◌+◌, ◌≤◌}
use mathlib.Core.Path.{◌≡◌, sym, ◌∙◌}
use mathlib.Core.List.{List}
use native.Mathlib.Omega.{arith}
use Rattle.std.specs.Prelude.{None, Some}
use Rattle.format.specs.Geometry.{file_sectors}
use Rattle.format.specs.Stream.{block_at, walk_on, walk, walk_from}
use Rattle.format.specs.declared.Header.{Header}
use Rattle.format.specs.declared.closing.Block.{Block}
use Rattle.format.specs.declared.closing.Block.TheVariants.{Stop, Other, Grain}
use Rattle.format.proofs.StreamKept.{Told, block_told, walk_enough}
use Rattle.format.proofs.Geometry.{grains_few, entry_used}
use Rattle.walk.specs.Walked.{Walkable, rest_of, GrainFrom, Next}
use Rattle.walk.specs.declared.NextGrain.{NextGrain}

module _ (s : List ℕ) (h : Header) (w : Walkable h) (p next : ℕ) where
  step : walk_from s h p next ≡ walk_on (block_at s h p next) p next (walk_from s h)
  unfolding walk
  step = walk_enough s h w.sizes.low (file_sectors s) (suc (file_sectors s)) p next (omega arith) (omega arith)

  module _ (b : Block) (e : b ≡ block_at s h p next) where
    told : Told s h p next b
    told = rw e (block_told s h w.sizes.low p next)

    module _ (k : ℕ) where
      pub other_step : b ≡ Other k → walk_from s h p next ≡ walk_from s h (p + k) next
      unfolding walk_on
      other_step q = step ∙ rw (← e, q)

      pub other_there : b ≡ Other k → (1 ≤ k) × (p + k ≤ file_sectors s)
      other_there q = rw q at told

    -- the first grain from sector q on is what stands at p
    module _ (q : ℕ) (left : walk_from s h p next ≡ walk_from s h q next) where
      pub stop_next : b ≡ Stop → Next s h q next None
      unfolding rest_of walk_on
      stop_next z = record {
        standing = record { grain = λ c e. cc };
        is = sym (step ∙ rw (← e, z)) ∙ left;
      }

      pub grain_next : (g k : ℕ) → b ≡ Grain g k → Next s h q next (Some (record { number = g; sector = p; sectors = k }))
      unfolding rest_of walk_on
      grain_next g k z =
          let t : Told s h p next (Grain g k) = rw z at told in
          let small = grains_few h.capacity h.grain_size w.sizes.low in
          let c : NextGrain = record { number = g; sector = p; sectors = k } in
          let here : GrainFrom s h next c = record {
            low = t.0;
            high = omega (arith, t.1.used, w.sizes.small);
            used = rw w.table (entry_used h.capacity h.grain_size w.sizes.low 512 (omega arith) g t.1.used);
            here = t.1.here;
          } in
          record {
            standing = record { grain = λ r e. let i : c ≡ r = cc in rw i at here };
            is = sym (step ∙ rw (← e, z)) ∙ left;
          }
