-- 10: no marker is broken exactly where each packed grain's size is at least 1 and its first number is g x grain size.
use Prim.Native.Nat.{ℕ, ◌*◌, ◌≤◌, ◌<◌}
use mathlib.Core.Path.{◌≡◌, refl}
use mathlib.Core.List.{List}
use mathlib.Core.Bool.{true, false, not}
use native.Mathlib.Omega.{arith}
use lib.Dec.{eqb}
use borrow.Author.Tests.{eqb-true, eqb-false, eq-eqb, ne_eqb, not-false}
use Rattle.base.proofs.Steps.{or_no}
use Rattle.format.specs.Header.{grains_of}
use Rattle.format.specs.Entries.{grain_entry, marker_first, marker_size, marker_broken}
use Rattle.format.specs.Check.{marker_broken_at, bad_marker, lowest_bad_marker}
use Rattle.format.specs.declared.Header.{Header}
use Rattle.format.specs.declared.Entry.{Entry}
use Rattle.format.specs.declared.Entry.TheVariants.{Absent, Zero, Sector}
use Rattle.format.proofs.Picked.{and_no, no_and}
use Rattle.format.proofs.LowestGrain.{none_lowest, lowest_none}
use Rattle.std.specs.Prelude.{None}

-- ---- one marker
module _ (s : List ℕ) (size g e : ℕ) where
  abbrev pub MarkerRules : Type 0
  MarkerRules = (1 ≤ marker_size s e) × (marker_first s e ≡ g * size)

  marker_kept : marker_broken s size g e ≡ false → MarkerRules
  unfolding marker_broken
  marker_kept q =
      let n = or_no (eqb (marker_size s e) 0) (not (eqb (marker_first s e) (g * size))) q in
      (omega (arith, eqb-false (marker_size s e) 0 n.0), eqb-true _ _ (not-false _ n.1))

  pub kept_marker : MarkerRules → marker_broken s size g e ≡ false
  unfolding marker_broken
  kept_marker r = rw (ne_eqb (marker_size s e) 0 (omega (arith, r.0)), eq-eqb (marker_first s e) (g * size) r.1)

-- an entry's marker, if it has one
entry_kept : (s : List ℕ) (size g : ℕ) (d : Entry) → ((e : ℕ) → d ≡ Sector e → MarkerRules s size g e)
    → marker_broken_at s size g d ≡ false
unfolding marker_broken_at
entry_kept s size g Absent f = refl
entry_kept s size g Zero f = refl
entry_kept s size g (Sector e) f = kept_marker s size g e (f e refl)

-- ---- those of all grains
module _ (s : List ℕ) (h : Header) where
  abbrev pub AllMarkers : Type 0
  AllMarkers = h.packed ≡ true → (g e : ℕ) → g < grains_of h → grain_entry s h g ≡ Sector e → MarkerRules s h.grain_size g e

  pub markers_kept : lowest_bad_marker s h ≡ None → AllMarkers
  unfolding marker_broken_at
  markers_kept q p g e l is =
      marker_kept s h.grain_size g e
      (rw is at (and_no h.packed (marker_broken_at s h.grain_size g (grain_entry s h g))
      (none_lowest (bad_marker s h) (grains_of h) q g l) p))

  pub kept_markers : AllMarkers → lowest_bad_marker s h ≡ None
  kept_markers f =
      lowest_none (bad_marker s h) (grains_of h)
      (λ g l. no_and h.packed _ (λ p. entry_kept s h.grain_size g (grain_entry s h g) (λ e is. f p g e l is)))
