-- A start that closing takes (request A12): what is known of it, and that the kept part is a start of what was lent.
use Prim.Native.Nat.{ℕ, ◌*◌, ◌≤◌}
use mathlib.Core.Path.{◌≡◌, ◌∙◌}
use mathlib.Core.List.{List}
use mathlib.Core.Bool.{true, false, not}
use native.Mathlib.Omega.{arith}
use lib.Dec.{ltb, eqb}
use lib.ListN.{length, take, get_or-append}
use lib.Seq.{get_or-take, length-take-le, take_at}
use borrow.Author.Tests.{ltb-false, eqb-true, not-false}
use Rattle.base.specs.Bytes.{SameBytes}
use Rattle.base.proofs.Steps.{or_no}
use Rattle.base.proofs.Stands.{Stands, stands_right, stands_at}
use Rattle.format.specs.Geometry.{file_sectors}
use Rattle.format.specs.Kdmv.{kdmv_fields, at_end}
use Rattle.format.specs.Header.{kdmv_header, start_of}
use Rattle.format.specs.Areas.{descriptor_area, runs_past}
use Rattle.format.specs.Check.{descriptor_misplaced}
use Rattle.format.specs.Stream.{overhead, KeptGrain, kept_grains, grains_end, kept_sectors}
use Rattle.format.specs.Close.{no_stream, walk_misplaced, tail_of, closed_image}
use Rattle.format.specs.declared.Header.{Header}
use Rattle.format.proofs.Places.{BothOrNone, descriptor_kept}
use Rattle.format.proofs.HeaderStart.{Started, started, StartSizes, started_sizes}
use Rattle.format.proofs.StreamKept.{Ascends, walk_ascends}
use Rattle.format.proofs.StreamKept.Ascends.{none, some}
use Rattle.laws.specs.Closed.{Closable}

pub record Closing (s : List ℕ) : Type 0 where
  pub started : Started s (start_of s)
  pub sizes : StartSizes (start_of s)
  pub at_end : at_end (kdmv_fields s) ≡ true
  pub single : (kdmv_fields s).redundant ≡ 0
  pub few : file_sectors s ≤ 0x80000000
  pub late : 2 ≤ overhead s
  pub here : overhead s ≤ file_sectors s
  pub both : BothOrNone (start_of s)
  pub descriptor : runs_past (overhead s) (descriptor_area (start_of s)) ≡ false

pub closing : (s : List ℕ) → Closable s → Closing s
unfolding kdmv_header
closing s c =
    let a = or_no (no_stream (start_of s)) _ c.closable in
    let d = or_no (not (start_of s).footer) (not (eqb (start_of s).redundant 0)) a.0 in
    let e = or_no (walk_misplaced s) (descriptor_misplaced (overhead s) (start_of s)) a.1 in
    let f = or_no (ltb 0x80000000 (file_sectors s)) _ e.0 in
    let g = or_no (ltb (overhead s) 2) (ltb (file_sectors s) (overhead s)) f.1 in
    let q = descriptor_kept (overhead s) (start_of s) e.1 in
    let t = started s (start_of s) c.known in
    record {
      started = t;
      sizes = started_sizes s (start_of s) t;
      at_end = not-false _ d.0;
      single = eqb-true _ _ (not-false _ d.1);
      few = ltb-false _ _ f.0;
      late = ltb-false _ _ g.0;
      here = ltb-false _ _ g.1;
      both = q.0;
      descriptor = q.1;
    }

-- ---- where the kept grains end
module _ (s : List ℕ) (h : Header) where
  pub end_late : {p next : ℕ} {l : List KeptGrain} → Ascends s h p next l → p ≤ grains_end p l
  unfolding grains_end
  end_late none = omega arith
  end_late (some {k = k} e n w a) = omega (arith, end_late a)

  pub end_here : {p next : ℕ} {l : List KeptGrain} → Ascends s h p next l → p ≤ file_sectors s
      → grains_end p l ≤ file_sectors s
  unfolding grains_end
  end_here none q = q
  end_here (some e n w a) q = end_here a w.here

module _ (s : List ℕ) (z : Closing s) where
  pub kept_ascends : Ascends s (start_of s) (overhead s) 0 (kept_grains s (start_of s))
  kept_ascends = walk_ascends s (start_of s) (omega (arith, z.sizes.low)) (file_sectors s) (overhead s) 0

  pub kept_late : overhead s ≤ kept_sectors s (start_of s)
  kept_late = end_late s (start_of s) kept_ascends

  pub kept_here : kept_sectors s (start_of s) ≤ file_sectors s
  kept_here = end_here s (start_of s) kept_ascends z.here

  -- ---- the kept part
  pub kept_long : length (take (512 * kept_sectors s (start_of s)) s) ≡ 512 * kept_sectors s (start_of s)
  kept_long = length-take-le (512 * kept_sectors s (start_of s)) s (omega (arith, kept_here))

  pub kept_start : take (512 * kept_sectors s (start_of s)) (closed_image s) ≡ take (512 * kept_sectors s (start_of s)) s
  kept_start = take_at _ (tail_of s (start_of s)) (512 * kept_sectors s (start_of s)) kept_long

  pub kept_same : SameBytes (closed_image s) s 0 (512 * kept_sectors s (start_of s))
  kept_same i low high =
      get_or-append (take (512 * kept_sectors s (start_of s)) s) (tail_of s (start_of s)) 0 i (omega (arith, kept_long))
      ∙ get_or-take (512 * kept_sectors s (start_of s)) s i 0 (omega arith)

  -- and the tail after it
  pub tail_stands : Stands (closed_image s) (512 * kept_sectors s (start_of s)) (tail_of s (start_of s))
  tail_stands =
      stands_at _ kept_long (stands_right (take (512 * kept_sectors s (start_of s)) s) (tail_of s (start_of s)))

-- the kept part is the start of what was lent, and all of it was there
pub closed_start : (s : List ℕ) → Closable s
    → (take (512 * kept_sectors s (start_of s)) (closed_image s) ≡ take (512 * kept_sectors s (start_of s)) s)
    × (kept_sectors s (start_of s) ≤ file_sectors s)
closed_start s c = let z = closing s c in (kept_start s z, kept_here s z)
