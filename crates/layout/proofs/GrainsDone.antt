-- Entries and grains written in one loop, for any grain map: what holds after g grains, and how a turn keeps it.
use Prim.Native.Nat.{ℕ, ◌+◌, ◌*◌, ◌≤◌, ◌<◌}
use mathlib.Core.Path.{◌≡◌, refl, sym, ap, ◌∙◌}
use mathlib.Core.List.{List}
use native.Mathlib.Omega.{arith}
use native.Mathlib.Nat.{zero-mul, add-zero, add-mul, mul-le-mul_right, mul_left_comm}
use lib.ListN.{length}
use Rattle.base.specs.Numbers.{le_bytes}
use Rattle.base.specs.Bytes.{over}
use Rattle.base.specs.Rows.{rows, entry_bytes}
use Rattle.base.proofs.Numbers.{le_length}
use Rattle.base.proofs.Over.{over_length}
use Rattle.format.specs.Grains.{Grain, Map, bytes_of, one_if_stored, stored_below, entry_for}
use Rattle.format.specs.Geometry.{grains}
use Rattle.format.specs.Layout.{tables_at, sector_v, sectors_laid, length_as}
use Rattle.format.specs.declared.Kind.{Kind}
use Rattle.layout.specs.WrittenParts.{entry_in, bytes_in, with_grains}
use Rattle.base.proofs.OverApart.{over_swap}
use Rattle.layout.proofs.EntryRuns.{rows_none, rows_more, entries_long, entries_more}
use Rattle.layout.proofs.PartSizes.{entries_before}
use Rattle.layout.proofs.StoredGrains.{Full, stored_more, stored_within, bytes_long}

-- an output of n bytes has room for the entries of all grains, from byte `at` on, and for their bytes, from sector v on
pub record Room (at v z : ℕ) (m : Map) (all n : ℕ) : Type 0 where
  pub entries : at + 4 * all ≤ 512 * v
  pub bytes : 512 * (v + stored_below m all * z) ≤ n

-- after g grains: out is d with their entries and their bytes, and the next stored grain goes to sector `next`
pub record Done (at v z : ℕ) (m : Map) (d : List ℕ) (g : ℕ) (out : List ℕ) (next : ℕ) : Type 0 where
  pub same : length out ≡ length d
  pub sector : next ≡ v + stored_below m g * z
  pub bytes : out ≡ with_grains at v z m g d

module _ (at v z : ℕ) (m : Map) where
  pub done_none : (d : List ℕ) → Done at v z m d 0 d v
  unfolding stored_below
  done_none d = record {
    same = refl;
    sector = sym (simp (zero-mul, add-zero));
    bytes = rows_none (λ k. le_bytes 4 (entry_in v z m k)) d at ∙ rows_none (bytes_in m) _ (512 * v);
  }

  sector_within : (g all : ℕ) → g < all → stored_below m g * z + one_if_stored (m g) * z ≤ stored_below m all * z
  sector_within g all h =
      omega (arith, add-mul (stored_below m g) (one_if_stored (m g)) z, mul-le-mul_right z (stored_within m g all h))

  module _ (d : List ℕ) (g : ℕ) (xs : List ℕ) (next : ℕ) (w : Done at v z m d g xs next) where
    pub done_all : (all : ℕ) → g ≤ all → all ≤ g → xs ≡ with_grains at v z m all d
    done_all all l h = let q : g ≡ all = omega arith in rw q at w.bytes

    module _ (all : ℕ) (room : Room at v z m all (length d)) (h : g < all) where
      -- the output has room for the entry and for the grain
      pub entry_room : at + 4 * g + 4 ≤ length xs
      entry_room = omega (arith, w.same, room.entries, room.bytes)

      pub done_room : 512 * (next + one_if_stored (m g) * z) ≤ length xs
      done_room = omega (arith, w.same, w.sector, sector_within g all h, room.bytes)

      module _ (full : Full m z) where
        -- where the bytes so far end
        here : 512 * v + length (rows g (bytes_in m)) ≡ 512 * next
        here = omega (arith, bytes_long m z full g, mul_left_comm (stored_below m g) 512 z, w.sector)

        bytes_room : 512 * next + length (bytes_of (m g)) ≤ length d
        bytes_room =
            omega (
              arith,
              full.bytes g,
              mul_left_comm (one_if_stored (m g)) 512 z,
              w.sector,
              sector_within g all h,
              room.bytes,
            )

        kept : (i : ℕ) → i ≤ all → length (over d at (entry_bytes i (entry_in v z m))) ≡ length d
        kept i b =
            over_length d _ (entry_bytes i (entry_in v z m))
            (omega (arith, entries_long (entry_in v z m) i, room.entries, bytes_room, here))

        module _ (x : Grain) (is : x ≡ m g) (zs : List ℕ) (r : ℕ)
            (p : zs ≡ over (over xs (at + 4 * g) (le_bytes 4 (entry_for x next))) (512 * next) (bytes_of x))
            (q : r ≡ next + one_if_stored x * z) where
          abbrev D : ℕ → List ℕ
          D i = over d at (entry_bytes i (entry_in v z m))

          entry : le_bytes 4 (entry_for x next) ≡ le_bytes 4 (entry_in v z m g)
          entry = rw (is, w.sector)

          -- the entry goes below the bytes that stand already
          under : over xs (at + 4 * g) (le_bytes 4 (entry_for x next)) ≡ over (D (g + 1)) (512 * v) (rows g (bytes_in m))
          under =
              rw (entry, w.bytes)
              (over_swap (D g) (le_bytes 4 (entry_in v z m g)) (rows g (bytes_in m)) _ _
              (omega (arith, le_length 4 (entry_in v z m g), room.entries))
              (omega (arith, kept g (omega arith), here, bytes_room)))
              ∙ ap (λ (y : List ℕ). over y (512 * v) (rows g (bytes_in m)))
              (entries_more (entry_in v z m) d (D g) _ _ g _ refl refl refl
              (omega (arith, room.entries, here, bytes_room)))

          bytes_more : zs ≡ over (D (g + 1)) (512 * v) (rows (g + 1) (bytes_in m))
          bytes_more =
              rows_more (bytes_in m) (D (g + 1)) _ zs _ (512 * next) g (p ∙ rw is) under here
              (omega (arith, kept (g + 1) (omega arith), here, bytes_room))

          pub done_more : Done at v z m d (g + 1) zs r
          done_more = record {
            same = ap length p ∙ over_length _ _ (bytes_of x) (omega (arith, under_long, x_room)) ∙ under_long;
            sector = q ∙ rw (is, w.sector, stored_more) (omega (arith, add-mul (stored_below m g) (one_if_stored (m g)) z));
            bytes = bytes_more;
          }
            where
              x_room : 512 * next + length (bytes_of x) ≤ length d
              x_room = rw is bytes_room

              under_long : length (over xs (at + 4 * g) (le_bytes 4 (entry_for x next))) ≡ length d
              under_long =
                  over_length xs _ (le_bytes 4 (entry_for x next))
                  (omega (arith, le_length 4 (entry_for x next), w.same, room.entries, here, bytes_room)) ∙ w.same

-- ---- what has room for an image
module _ (kind : Kind) (c z : ℕ) (m : Map) (n : ℕ) (h : length_as kind c z m ≤ n) where
  -- has it for all that stands before the grains
  pub front_room : 512 * sector_v kind c z ≤ n
  unfolding sectors_laid
  front_room = omega arith

  -- and for entries and grains, by the numbers that the code has
  pub grains_room : 1 ≤ z → (t v all : ℕ) → t ≡ tables_at kind c z → v ≡ sector_v kind c z → all ≡ grains c z
      → Room (512 * t) v z m all n
  unfolding sectors_laid
  grains_room some t v all e f g = record {
    entries = rw (e, f, g) (entries_before kind c z some);
    bytes = rw (f, g) h;
  }

-- after all grains, by the same numbers
pub grains_done : (kind : Kind) (c z : ℕ) (m : Map) (d : List ℕ) (g : ℕ) (xs : List ℕ) (next t v all : ℕ)
    → Done (512 * t) v z m d g xs next → t ≡ tables_at kind c z → v ≡ sector_v kind c z → all ≡ grains c z → g ≤ all → all ≤ g
    → xs ≡ with_grains (512 * tables_at kind c z) (sector_v kind c z) z m (grains c z) d
grains_done kind c z m d g xs next t v all w e f i l h =
    rw (← e, ← f, ← i) (done_all (512 * t) v z m d g xs next w all l h)
