-- What the check does not use: two images that agree in length and, where these lie in the file, in the entries in use and in
-- the markers of packed grains are checked alike. Entries past the last grain are not judged.
use Prim.Native.Nat.{ℕ, ◌+◌, ◌/◌, ◌%◌, ◌≤◌, ◌<◌}
use mathlib.Core.Path.{◌≡◌, refl, ap}
use mathlib.Core.List.{List}
use mathlib.Core.Bool.{Bool, true, false, ◌||◌}
use native.Mathlib.Omega.{arith}
use native.Mathlib.Nat.{div-add-mod', mod-lt}
use lib.Dec.{eqb}
use borrow.Author.Tests.{eqb-false}
use Rattle.base.specs.Pick.{pick}
use Rattle.base.proofs.Steps.{pick_both, and_both}
use Rattle.base.proofs.Rows.{rows_same}
use Rattle.format.specs.Geometry.{file_sectors}
use Rattle.format.specs.Header.{grains_of, directory_entries_of}
use Rattle.format.specs.Entries.{meaning, in_table, meaning_at, entry_of_grain, grain_entry, entries_in_use}
use Rattle.format.specs.Entries.{grain_sectors, marker_broken}
use Rattle.format.specs.Areas.{Area, named, table_areas, primary_tables, redundant_tables, grain_area, areas}
use Rattle.format.specs.Areas.{runs_past}
use Rattle.format.specs.Frame.{frame_words, frame_areas}
use Rattle.format.specs.Check.{descriptor_misplaced, directory_misplaced, redundant_directory_misplaced}
use Rattle.format.specs.Check.{primary_tables_misplaced}
use Rattle.format.specs.Check.{redundant_tables_misplaced, misplaced, lowest_misplaced, entry_differs, grain_past}
use Rattle.format.specs.Check.{marker_broken_at, lowest_past, lowest_bad_marker, copy_differs, copies_differ, unless_grain}
use Rattle.format.specs.Check.{check_apart, check_copies, check_grains, check_layout}
use Rattle.format.specs.declared.Header.{Header}
use Rattle.format.specs.declared.Entry.{Entry}
use Rattle.format.specs.declared.Entry.TheVariants.{Absent, Zero, Sector}
use Rattle.format.specs.declared.MisplacedPart.TheVariants.{Descriptor, Directory, RedundantDirectory}
use Rattle.format.specs.declared.MisplacedPart.TheVariants.{PrimaryTable, RedundantTable}
use Rattle.format.specs.declared.Refusal.{Refusal}
use Rattle.format.proofs.Geometry.{entry_used}
use Rattle.format.proofs.Entries.{by_entry, some_same, sectors_same, some_sectors, past_same}
use Rattle.format.proofs.Inside.{table_in, named_in}
use Rattle.format.proofs.LowestGrain.{none_lowest, lowest_same}
use Rattle.format.proofs.ReadAlike.{areas_frame}
use Rattle.format.proofs.Places.{Places, places_kept, primary_in, directory_in, redundant_in, redundant_tables_lem}
use Rattle.laws.specs.Unused.{SameEntries, SameTables, SameInUse}
use Rattle.std.specs.Prelude.{Result, Option, Some, None}
use Rattle.format.specs.declared.Shape.{Shape}

-- ---- two directory entries
copy_same : (s t : List ℕ) (n : ℕ) (a b : Entry) → ((u : ℕ) → a ≡ Sector u → SameEntries s t u n)
    → ((u : ℕ) → b ≡ Sector u → SameEntries s t u n) → copy_differs s n a b ≡ copy_differs t n a b
unfolding copy_differs
copy_same s t n a b f g =
    by_entry (λ x. copy_differs s n x b) (λ x. copy_differs t n x b)
    (by_entry (copy_differs s n Absent) (copy_differs t n Absent) refl refl b (λ v e. refl))
    (by_entry (copy_differs s n Zero) (copy_differs t n Zero) refl refl b (λ v e. refl))
    a
    (λ u i.
    by_entry (copy_differs s n (Sector u)) (copy_differs t n (Sector u)) refl refl b
    (λ v j. some_same _ _ n (λ k l. rw (f u i k l, g v j k l))))

unless_same : (l : Option ℕ) (refusal : ℕ → Refusal) (a b : Result Shape Refusal) → (l ≡ None → a ≡ b)
    → unless_grain l refusal a ≡ unless_grain l refusal b
unfolding unless_grain
unless_same None refusal a b f = f refl
unless_same (Some g) refusal a b f = refl

-- ---- 8: a directory is read where it lies in the file
module _ (s t : List ℕ) (h : Header) (directory : ℕ) (both : SameTables s t h directory)
    (i : directory + h.directory_sectors ≤ file_sectors s) where
  table_same : (d : ℕ) → d < directory_entries_of h → meaning_at s h.one_is_zero directory d
      ≡ meaning_at t h.one_is_zero directory d
  table_same d l = ap (meaning h.one_is_zero) (both.entries i d l)

  abbrev tables_of : List ℕ → List Area
  tables_of u = table_areas u h.one_is_zero h.table_sectors directory (directory_entries_of h)

  tables_same : tables_of s ≡ tables_of t
  tables_same = rows_same (directory_entries_of h) _ _ (λ d l. ap (named (λ x. h.table_sectors)) (table_same d l))

module _ (s t : List ℕ) (h : Header) (one : 1 ≤ h.grain_size) (per : 1 ≤ h.entries_per_table) (same : SameInUse s t h)
  where
    abbrev takes : List ℕ → ℕ → ℕ
    takes u = grain_sectors u h.packed h.grain_size

    redundant_same : redundant_directory_misplaced (file_sectors s) h ≡ false → redundant_tables s h ≡ redundant_tables t h
    unfolding redundant_tables
    redundant_same e =
        pick_both ◌≡◌ (eqb h.redundant 0) _ _ _ _ (λ z. refl)
        (λ n.
        let two = eqb-false _ _ n in
        tables_same s t h h.redundant (same.copies two) (redundant_in (file_sectors s) h e two))

    -- what is told of the first part that is misplaced, and where none of the first four is
    abbrev by_part : {A : Type 0} → A → A → A → A → (List ℕ → A) → List ℕ → A
    by_part w x y z last u =
        pick (descriptor_misplaced (file_sectors u) h) w
        (pick (directory_misplaced (file_sectors u) h) x
        (pick (redundant_directory_misplaced (file_sectors u) h) y (pick (primary_tables_misplaced u h) z (last u))))

    tables_past_same : {A : Type 0} (z : A) (last : List ℕ → A) → directory_misplaced (file_sectors s) h ≡ false
        → last s ≡ last t → pick (runs_past (file_sectors s) (primary_tables s h)) z (last s)
        ≡ pick (runs_past (file_sectors s) (primary_tables t h)) z (last t)
    tables_past_same z last i e =
        rw (tables_same s t h h.directory same.primary (directory_in (file_sectors s) h i), e)

    parts_same : {A : Type 0} (w x y z : A) (last : List ℕ → A)
        → (redundant_directory_misplaced (file_sectors s) h ≡ false → last s ≡ last t) → by_part w x y z last s
        ≡ by_part w x y z last t
    parts_same w x y z last f =
        rw (← same.long)
        (pick_both ◌≡◌ _ _ _ _ _ (λ q. refl)
        (λ a.
        pick_both ◌≡◌ _ _ _ _ _ (λ q. refl)
        (λ b. pick_both ◌≡◌ _ _ _ _ _ (λ q. refl) (λ c. tables_past_same z last b (f c)))))

    pub misplaced_same : misplaced s h ≡ misplaced t h
    unfolding misplaced
    misplaced_same =
        parts_same true true true true (λ u. redundant_tables_misplaced u h) (λ e. rw (← same.long, redundant_same e))

    pub part_same : lowest_misplaced s h ≡ lowest_misplaced t h
    unfolding lowest_misplaced
    part_same = parts_same Descriptor Directory RedundantDirectory PrimaryTable (λ u. RedundantTable) (λ e. refl)

    -- ---- where nothing is misplaced, tables are read in the file
    module _ (p : Places s h) where
      primary_same : (d : ℕ) → d < directory_entries_of h
          → meaning_at s h.one_is_zero h.directory d ≡ meaning_at t h.one_is_zero h.directory d
      primary_same = table_same s t h h.directory same.primary (primary_in s h p)

      in_primary : (d u : ℕ) → d < directory_entries_of h → meaning_at s h.one_is_zero h.directory d ≡ Sector u
          → SameEntries s t u (entries_in_use h d)
      in_primary d u l e = same.primary.tables d u l e (table_in s _ _ _ _ p.tables d u l e)

      pub entry_same : (g : ℕ) → g < grains_of h → grain_entry s h g ≡ grain_entry t h g
      unfolding entry_of_grain in_table
      entry_same g l =
          let d = g / h.entries_per_table in
          let used : d < directory_entries_of h =
          entry_used h.capacity h.grain_size one h.entries_per_table per g l in
          let low : g % h.entries_per_table < h.entries_per_table = mod-lt g per in
          let k : g % h.entries_per_table < entries_in_use h d = omega (arith, div-add-mod' g h.entries_per_table) in
          rw (← primary_same d used)
          (by_entry (in_table s h.one_is_zero _) (in_table t h.one_is_zero _) refl refl _
          (λ u e. ap (meaning h.one_is_zero) (in_primary d u used e _ k)))

      pub frame_areas_same : frame_areas s h ≡ frame_areas t h
      unfolding frame_areas
      frame_areas_same =
          rw (same.long, tables_same s t h h.directory same.primary (primary_in s h p), redundant_same p.redundant)

      pub frame_words_same : frame_words s h ≡ frame_words t h
      unfolding frame_words
      frame_words_same =
          rw (same.long, tables_same s t h h.directory same.primary (primary_in s h p), redundant_same p.redundant)

      -- 9: a grain's marker is read where its sector lies in the file
      abbrev entry_past : List ℕ → Entry → Bool
      entry_past u d = runs_past (file_sectors s) (named (takes u) d)

      lowest_past_same : lowest_past s h ≡ lowest_past t h
      unfolding named runs_past
      lowest_past_same =
          lowest_same _ _ 0 _
          (λ g l.
          let b : g < grains_of h = omega arith in
          rw (← same.long, ← entry_same g b)
          (by_entry (entry_past s) (entry_past t) refl refl _
          (λ e q.
          ap (λ x. x || false) (past_same h.packed h.grain_size e one s t _ (λ i c. (same.markers c g e b q i).0)))))

      -- 11
      differs_same : (h.redundant ≡ 0 → ⊥) → (d : ℕ) → d < directory_entries_of h → entry_differs s h d ≡ entry_differs t h d
      differs_same two d l =
          rw (
            ← primary_same d l,
            ← table_same s t h h.redundant (same.copies two) (redundant_in (file_sectors s) h p.redundant two) d l,
          )
          (copy_same s t _ _ _ (λ u e. in_primary d u l e)
          (λ u e. (same.copies two).tables d u l e
          (table_in s _ _ _ _ (rw (redundant_tables_lem s h two) at p.copies) d u l e)))

      copies_same : copies_differ s h ≡ copies_differ t h
      unfolding copies_differ
      copies_same =
          pick_both ◌≡◌ (eqb h.redundant 0) _ _ _ _ (λ z. refl)
          (λ n. some_same _ _ (directory_entries_of h) (differs_same (eqb-false _ _ n)))

      -- ---- and where no grain runs past F, all markers are
      module _ (n : lowest_past s h ≡ None) where
        marker_in : (g e : ℕ) → g < grains_of h → grain_entry s h g ≡ Sector e → e < file_sectors s
        marker_in g e l q =
            let i : runs_past (file_sectors s) (grain_area s h g) ≡ false = none_lowest (grain_past s h) (grains_of h) n g l in
            let j = named_in (file_sectors s) (takes s) e (rw q at i) in
            omega (arith, some_sectors s h.packed h.grain_size e one)

        -- 10
        markers_same : lowest_bad_marker s h ≡ lowest_bad_marker t h
        unfolding marker_broken_at marker_broken
        markers_same =
            lowest_same _ _ 0 _
            (λ g l.
            let b : g < grains_of h = omega arith in
            rw (← entry_same g b)
            (and_both h.packed _ _
            (λ c.
            by_entry (marker_broken_at s h.grain_size g) (marker_broken_at t h.grain_size g) refl refl _
            (λ e q. let m = same.markers c g e b q (marker_in g e b q) in rw (m.0, m.1)))))

        -- 12
        area_same : (g : ℕ) → g < grains_of h → grain_area s h g ≡ grain_area t h g
        unfolding named
        area_same g l =
            rw (← entry_same g l)
            (by_entry (named (takes s)) (named (takes t)) refl refl _
            (λ e q.
            rw (sectors_same s t h.packed h.grain_size e (λ c. (same.markers c g e l q (marker_in g e l q)).0))))

        pub areas_same : areas s h ≡ areas t h
        areas_same =
            rw (
              areas_frame s h,
              areas_frame t h,
              frame_areas_same,
              rows_same (grains_of h) (grain_area s h) (grain_area t h) area_same,
            )

      grains_same : check_grains s h ≡ check_grains t h
      unfolding check_grains check_copies check_apart
      grains_same =
          rw (← lowest_past_same) (unless_same (lowest_past s h) _ _ _ (λ n. rw (markers_same n, copies_same, areas_same n)))

    pub unused_free : check_layout s h ≡ check_layout t h
    unfolding check_layout
    unused_free =
        rw (← misplaced_same, ← part_same)
        (pick_both ◌≡◌ _ _ _ _ _ (λ q. refl) (λ n. grains_same (places_kept s h n)))
