-- Where an image is in order, no sector lies in two of its areas.
use Prim.Native.Nat.{ℕ, ◌+◌, ◌≤◌}
use mathlib.Core.Path.{◌≡◌, refl, sym, ap, ◌∙◌}
use mathlib.Core.List.{List, [], ◌∷◌, ◌++◌}
use mathlib.Core.Bool.{Bool, true, false, not, false≢true}
use mathlib.Core.Logic.{⊎_elim}
use native.Mathlib.Omega.{arith}
use Rattle.base.specs.Pick.{pick}
use Rattle.base.specs.Rounding.{ceil}
use Rattle.base.proofs.Rounding.{ceil_least, ceil_covers}
use Rattle.base.proofs.Steps.{stop, skip, lt_or_ge, true_or_false, cond_all}
use Rattle.format.specs.Geometry.{file_sectors, grains}
use Rattle.format.specs.Header.{grains_of, directory_entries_of}
use Rattle.format.specs.Areas.{primary_tables, redundant_tables, grain_areas, areas, holds, holders, runs_past, meet}
use Rattle.format.specs.declared.Header.{Header}
use Rattle.format.proofs.Geometry.{entries_enough, first_grain}
use Rattle.format.proofs.Areas.{holders_append, meet_apart, apart_meet}
use Rattle.format.proofs.Inside.{groups_in, in_both, in_one, none_in, both_in}
use Rattle.named.specs.Named.{grain_named}
use Rattle.ascent.specs.Ascend.{no_stretch, ascend, settled, span, table_rows}
use Rattle.ascent.specs.declared.Stretch.{Stretch}
use Rattle.ascent.proofs.Ascending.{span_holds, ends_below, settled_over}
use Rattle.ascent.proofs.RowsHeld.{rows_held, rows_inside}
use Rattle.overlap.specs.InFile.{InFile, front_areas, tables_of, beside_grains, around, walked}
use Rattle.overlap.specs.declared.Walk.TheVariants.{Frame}
use Rattle.overlap.proofs.Grouped.{areas_grouped, grained}
use Rattle.order.specs.InOrder.{grain_rows, grain_stretch, in_order}

-- ---- the frame without the tables that stand between grains
frame_held : (s : List ℕ) (h : Header) (between : Bool) (x : ℕ)
    → holders (beside_grains s h false) x
    ≡ holders (beside_grains s h between) x + holders (pick between (primary_tables s h) []) x
unfolding beside_grains tables_of pick holders
frame_held s h true x = simp holders_append (omega arith)
frame_held s h false x = omega arith

frame_in : (f : ℕ) (s : List ℕ) (h : Header) (between : Bool) → runs_past f (beside_grains s h false) ≡ false
    → runs_past f (beside_grains s h between) ≡ false
unfolding beside_grains tables_of pick
frame_in f s h true e =
    let a = both_in f (front_areas h) _ e in
    let b = both_in f (primary_tables s h ++ redundant_tables s h) _ a.1 in
    in_both f _ _ a.0 (in_both f _ _ (both_in f (primary_tables s h) _ b.0).1 b.1)
frame_in f s h false e = e

module _ (s : List ℕ) (h : Header) (i : InFile s h) where
  -- as many tables as the loop over grains comes to
  tables_many : ceil (grains_of h) h.entries_per_table ≡ directory_entries_of h
  tables_many =
      let n = ceil (grains_of h) h.entries_per_table in
      let low = i.sound.sizes.low in
      let one = i.sound.some in
      let most : n ≤ directory_entries_of h =
      ceil_least (grains_of h) h.entries_per_table one _ (entries_enough h.capacity h.grain_size low _ one) in
      ⊎_elim
      (λ l. absurd (omega (
        arith,
        first_grain h.capacity h.grain_size low _ one n l,
        ceil_covers (grains_of h) h.entries_per_table one,
      )))
      (λ g. omega arith) (lt_or_ge n (directory_entries_of h))

  -- ---- what the rows of an image hold, and that they lie in the file
  rows_of_image : (x : ℕ) → holders (grain_rows s h) x
      ≡ holders (grain_areas s h) x + holders (pick h.footer (primary_tables s h) []) x
  unfolding grain_named
  rows_of_image x =
      rw tables_many at
      (rows_held s h.footer h.table_sectors h.one_is_zero h.packed h.grain_size h.entries_per_table
      h.directory (grains_of h) i.sound.some x)

  rows_in_file : runs_past (file_sectors s) (grain_rows s h) ≡ false
  unfolding grains
  rows_in_file =
      rows_inside s h.footer h.table_sectors h.one_is_zero h.packed h.grain_size h.entries_per_table
      h.directory (grains_of h) i.sound.some (grained s h i _ refl)
      (rw tables_many (groups_in s h i.inside).tables)

  -- ---- the stretch of an image that does not fall
  module _ (st : Stretch) (e : st ≡ grain_stretch s h) (over : st.falls ≡ false) where
    is_ascended : (st ≡ ascend (no_stretch (file_sectors s)) (grain_rows s h))
        × ((ascend (no_stretch (file_sectors s)) (grain_rows s h)).falls ≡ false)
    unfolding grain_stretch
    is_ascended = settled_over _ st e over

    stretch_holds : (x : ℕ) → holders (grain_rows s h) x ≤ holds (span st) x
    stretch_holds x =
        rw is_ascended.0 (span_holds (grain_rows s h) (no_stretch (file_sectors s)) is_ascended.1 x)

    -- it lies in the file, and so does the frame
    pub around_in : runs_past (file_sectors s) (walked s h (Frame st)) ≡ false
    unfolding walked around
    around_in =
        let f = file_sectors s in
        let ends = ends_below f (grain_rows s h) (no_stretch f) rows_in_file (omega arith) (omega arith) in
        let below = rw (← is_ascended.0) at ends in
        in_both f (beside_grains s h h.footer) (span st ∷ [])
        (frame_in f s h h.footer (both_in f (beside_grains s h false) _ (rw (areas_grouped s h) at i.inside)).0)
        (in_one f (span st) [] (omega (arith, below.0, below.1)) (none_in f))

    -- no sector lies in more areas than the frame and the stretch have there
    less_held : (x : ℕ) → holders (areas s h) x ≤ holders (walked s h (Frame st)) x
    unfolding walked around holders
    less_held x =
        rw (areas_grouped s h)
        (simp holders_append
        (omega (arith, frame_held s h h.footer x, rows_of_image x, stretch_holds x)))

-- ---- as the code gives it
module _ (s : List ℕ) (h : Header) (st : Stretch) where
  pub stretch_of : (all : ℕ) → all ≡ ceil h.capacity h.grain_size
      → st ≡ settled (ascend (no_stretch (file_sectors s)) (table_rows s h.footer h.table_sectors h.one_is_zero
      h.packed h.grain_size h.entries_per_table h.directory all))
      → st ≡ grain_stretch s h
  unfolding grain_stretch grains
  stretch_of all e g = rw e at g

  module _ (e : st ≡ grain_stretch s h) where
    pub order_fell : st.falls ≡ true → false ≡ in_order s h
    unfolding in_order
    order_fell t = stop _ _ _ (ap (λ (o : Stretch). o.falls) e) t refl

    pub order_judged : (m : Bool) → st.falls ≡ false → m ≡ meet (walked s h (Frame st)) → not m ≡ in_order s h
    unfolding in_order
    order_judged m f q = skip _ _ _ (ap (λ (o : Stretch). o.falls) e) f (rw (q, e))

module _ (s : List ℕ) (h : Header) (i : InFile s h) where
  pub order_apart : (r : Bool) → r ≡ in_order s h → r ≡ true → false ≡ meet (areas s h)
  unfolding in_order
  order_apart r e t =
      let frame = walked s h (Frame (grain_stretch s h)) in
      cond_all (λ (q : Bool). q ≡ true → false ≡ meet (areas s h)) (grain_stretch s h).falls false (not (meet frame))
      (λ f q. absurd (false≢true q))
      (λ f q.
      ⊎_elim (λ m. absurd (false≢true (rw m at q)))
      (λ n. sym (apart_meet (areas s h) (λ x. omega (arith, less_held s h i _ refl f x, meet_apart frame n x))))
      (true_or_false (meet frame)))
      (sym e ∙ t)
