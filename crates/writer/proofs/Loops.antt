-- The grains of both layers, written one after the other: each premise as the loop gives it.
use Prim.Native.Nat.{ℕ, ◌+◌, ◌*◌, ◌≤◌, ◌<◌}
use mathlib.Core.Path.{◌≡◌}
use mathlib.Core.List.{List}
use native.Mathlib.Omega.{arith}
use native.Mathlib.Nat.{mul-le-mul_right}
use lib.ListN.{length}
use Rattle.base.proofs.Rounding.{ceil_under, below_ceil}
use Rattle.format.specs.Geometry.{grains}
use Rattle.format.specs.Header.{grains_of}
use Rattle.format.specs.Entries.{grain_entry}
use Rattle.format.specs.Grains.{Grain, Map, stored_below}
use Rattle.format.specs.Layout.{sector_v, sectors_laid}
use Rattle.format.specs.declared.Kind.{Kind}
use Rattle.format.specs.declared.Header.{Header}
use Rattle.format.specs.Judged.{Sized}
use Rattle.layout.proofs.GrainsDone.{Room, Done, entry_room, done_room, done_more}
use Rattle.layers.specs.declared.GrainSource.{GrainSource}
use Rattle.layers.specs.TwoLayers.{source_from, grain_at, layered, Layers, Standing}
use Rattle.writer.specs.Put.{Ready, Put}
use Rattle.layers.proofs.Sources.{standing, source_grain, full}

-- ---- sizes
module _ (c z : ℕ) (s : Sized c z) where
  -- as many grains as there are take few sectors
  pub grains_small : (n : ℕ) → n ≤ grains c z → n * z < 0x80000800
  unfolding grains
  grains_small n h = omega (arith, mul-le-mul_right z h, ceil_under c z s.low, s.small, s.high)

  -- a grain begins below capacity
  pub grain_starts : (g : ℕ) → g < grains c z → g * z < c
  unfolding grains
  grain_starts g h = below_ceil c z s.low g h

-- the sectors, as the code counts them
pub sectors_are : (kind : Kind) (c z v n : ℕ) (m : Map) → v ≡ sector_v kind c z → n ≡ stored_below m (grains c z)
    → v + n * z ≡ sectors_laid kind c z m
unfolding sectors_laid
sectors_are kind c z v n m e q = rw (e, q)

module _ (lower : List ℕ) (h : Header) (upper : List ℕ) (k : Header) (l : Layers lower h upper k) where
  module _ (g : ℕ) (used : g < grains_of h) (source : GrainSource)
      (q : source ≡ source_from (grain_entry lower h g) (grain_entry upper k g)) where
    abbrev x : Grain
    x = grain_at lower upper h.capacity h.grain_size g source

    grain_is : x ≡ layered lower h upper k g
    grain_is = rw q (source_grain lower h upper k l g)

    module _ (d xs : List ℕ) (at v next all : ℕ) (w : Done at v h.grain_size (layered lower h upper k) d g xs next)
        (room : Room at v h.grain_size (layered lower h upper k) all (length d)) (few : g < all) where
      pub grain_ready : Ready x h.capacity h.grain_size g (at + 4 * g) next (length xs)
          × Standing lower upper h.grain_size source
      grain_ready =
          let s = l.below.sound.sizes in
          let m = layered lower h upper k in
          let ready : Ready (m g) h.capacity h.grain_size g (at + 4 * g) next (length xs) = record {
            sizes = s;
            starts = grain_starts _ _ s g used;
            entry = entry_room _ _ _ m d g xs next w all room few;
            bytes = done_room _ _ _ m d g xs next w all room few;
          } in
          (rw grain_is ready, rw q (standing lower h upper k l g used))

      pub grain_done : (r : ℕ) (ys : List ℕ) → Put x h.grain_size (at + 4 * g) next r xs ys
          → Done at v h.grain_size (layered lower h upper k) d (g + 1) ys r
      grain_done r ys p =
          done_more _ _ _ _ d g xs next w all room few (full lower h upper k l) x grain_is ys r p.bytes p.sector
