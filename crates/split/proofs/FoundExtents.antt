-- The extent that holds a sector, among the records of a text, and where its file stands.
use Prim.Native.Nat.{ℕ, ◌+◌, ◌-◌, ◌^◌, ◌≤◌, ◌<◌}
use mathlib.Core.Path.{◌≡◌, sym, ◌∙◌}
use mathlib.Core.List.{List}
use mathlib.Core.Bool.{Bool, true, false, not}
use native.Mathlib.Omega.{arith}
use lib.Dec.{leb, eqb}
use borrow.Author.Tests.{ltb-true, leb-true, eqb-true}
use lib.ListN.{length, get_or, take, drop}
use lib.Seq.{get_or-take}
use Rattle.base.specs.Pick.{pick}
use Rattle.base.proofs.Steps.{and_yes, or_no, not_no}
use Rattle.descriptor.specs.Descriptor.{no_extent}
use Rattle.descriptor.specs.Records.{holding, find_answer}
use Rattle.descriptor.specs.declared.Extent.{Extent}
use Rattle.format.specs.Chain.{lengths_sum, layer_at}
use Rattle.disk.specs.Split.{in_extent, split_lengths_broken, at_extent}
use Rattle.lengths.specs.Laid.{Laid, Ends}
use Rattle.lengths.proofs.Sums.{ends_none, ends_up, layer_is}
use Rattle.records.proofs.Search.{found_told}
use Rattle.std.specs.Prelude.{None, Some, position, Err}
use Rattle.std.proofs.lemmas.List.Quantifiers.{position-Some}
use Rattle.std.specs.Prelude.{Result}
use Rattle.format.specs.declared.LayerSource.{LayerSource}
use Rattle.disk.specs.declared.SplitRefusal.{SplitRefusal}
use Rattle.disk.specs.declared.SplitRefusal.TheVariants.{SectorPast}

-- ---- the extent that holds the sector
module _ (list : List Extent) (x i : ℕ) (e : position (λ r. holding r x) list ≡ Some i) where
  found : (i < length list) × (holding (get_or list i no_extent) x ≡ true)
      × ((k : ℕ) → k < i → holding (get_or list k no_extent) x ≡ false)
  found = position-Some _ list i no_extent e

  pub found_listed : (l : List ℕ) → length list ≤ length l → i < length l
  found_listed l h = omega (arith, found.0)

  pub found_first : (get_or list i no_extent).first ≤ x
  found_first = leb-true _ _ (and_yes _ _ found.1).0

  pub found_sector : x - (get_or list i no_extent).first < (get_or list i no_extent).sectors
  found_sector =
      let r = get_or list i no_extent in
      let h = ltb-true x (r.first + r.sectors) (and_yes (leb r.first x) _ found.1).1 in omega (arith, h, found_first)

  -- it is the extent that the answer is of
  pub found_at_lem : (files lengths : List ℕ) (z : Result LayerSource SplitRefusal)
      → z ≡ in_extent (layer_at files lengths i) (get_or list i no_extent) i (x - (get_or list i no_extent).first)
      → z ≡ at_extent files lengths list x (find_answer list x)
  unfolding at_extent pick
  found_at_lem files lengths z t = rw (← found_told list x (Some i) (sym e)) t

pub found_past : (files lengths : List ℕ) (list : List Extent) (x : ℕ) → position (λ r. holding r x) list ≡ None
    → (Err SectorPast) ≡ at_extent files lengths list x (find_answer list x)
unfolding at_extent pick
found_past files lengths list x e = rw (← found_told list x None (sym e))

-- ---- 24 is not given
module _ {r : Bool} (count : ℕ) (files lengths : List ℕ) (e : r ≡ split_lengths_broken count files lengths) (f : r ≡ false)
  where
    parts : (not (eqb (length lengths) count) ≡ false) × (not (eqb (lengths_sum lengths) (length files)) ≡ false)
    parts = or_no (not (eqb (length lengths) count)) (not (eqb (lengths_sum lengths) (length files))) (sym e ∙ f)

    pub lengths_whole : lengths_sum lengths ≡ length files
    lengths_whole = eqb-true (lengths_sum lengths) (length files) (not_no _ parts.1)

    pub lengths_as_many : length lengths ≡ count
    lengths_as_many = eqb-true (length lengths) count (not_no _ parts.0)

-- ---- where its file stands
module _ (s l : List ℕ) (whole : lengths_sum l ≡ length s) where
  laid : (k : ℕ) → k < length l → Laid (length l) s l
  laid k h = record { some = omega arith; few = omega arith; whole = whole }

  module _ (k i start : ℕ) (h : k < length l) (e : Ends s l i start) where
    pub start_more : i < k → Ends s l (i + 1) (start + get_or (take k l) i 0)
    start_more b = rw (get_or-take k l i 0 b) (ends_up s l i start (laid k h) e (omega arith))

    pub start_fits : i < k → length s < 2 ^ 64 → start + get_or (take k l) i 0 < 2 ^ 64
    start_fits b z = omega (arith, (start_more b).inside)

    pub start_there : i ≤ k → k ≤ i → Ends s l k start
    start_there a b = let q : k ≡ i = omega arith in rw q e

  pub start_none : Ends s l 0 0
  start_none = ends_none s l

  module _ (k start : ℕ) (h : k < length l) (e : Ends s l k start) where
    file_ends : Ends s l (k + 1) (start + get_or l k 0)
    file_ends = ends_up s l k start (laid k h) e h

    pub file_inside : start + get_or l k 0 ≤ length s
    file_inside = file_ends.inside

    pub file_fits : length s < 2 ^ 64 → start + get_or l k 0 < 2 ^ 64
    file_fits b = omega (arith, file_inside)

    file_is : take (start + get_or l k 0 - start) (drop start s) ≡ layer_at s l k
    file_is =
        let q : start + get_or l k 0 - get_or l k 0 ≡ start = omega arith in
        rw q at (layer_is s l k (start + get_or l k 0) file_ends)

    pub file_answer : (e : Extent) (o : ℕ) (z : Result LayerSource SplitRefusal)
        → z ≡ in_extent (take (start + get_or l k 0 - start) (drop start s)) e k o → z ≡ in_extent (layer_at s l k) e k o
    file_answer e o z t = rw (← file_is) t
