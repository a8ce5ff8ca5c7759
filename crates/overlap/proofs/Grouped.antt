-- What `InFile` says to each part of the walk.
use Prim.Native.Nat.{ℕ, ◌+◌, ◌*◌, ◌-◌, ◌≤◌, ◌<◌, ◌^◌}
use mathlib.Core.Path.{◌≡◌, refl}
use mathlib.Core.List.{List, [], ◌∷◌, ◌++◌, append_assoc}
use mathlib.Core.Bool.{Bool, true, false}
use native.Mathlib.Omega.{arith}
use lib.ListN.{length}
use lib.Dec.{eqb}
use borrow.Author.Tests.{eqb-false, le-ltb}
use Rattle.base.specs.Pick.{pick}
use Rattle.base.specs.Rows.{rows}
use Rattle.base.specs.Rounding.{ceil}
use Rattle.format.specs.Geometry.{file_sectors, grains}
use Rattle.format.specs.Header.{grains_of, directory_entries_of}
use Rattle.format.specs.Entries.{entry_at, grain_sectors}
use Rattle.format.specs.Areas.{Area, area, if_there, header_area, descriptor_area, directory_area, redundant_area, table_areas}
use Rattle.format.specs.Areas.{primary_tables, redundant_tables, footer_area, last_area, grain_area, grain_areas, areas}
use Rattle.format.specs.Areas.{runs_past}
use Rattle.format.specs.declared.Header.{Header}
use Rattle.format.proofs.Geometry.{grains_few, table_used}
use Rattle.format.proofs.Inside.{Inside, groups_in, one_in, rows_in, in_rows, there_in}
use Rattle.format.proofs.Places.{redundant_in, redundant_tables_lem}
use Rattle.window.specs.Run.{Run, done}
use Rattle.named.specs.Named.{least_sector, entry_area, grain_named}
use Rattle.overlap.specs.InFile.{InFile, head_areas, directory_areas, front_areas, tables_of, back_areas, beside_grains}
use Rattle.overlap.specs.InFile.{walked, Ends}
use Rattle.overlap.specs.declared.Walk.{Walk}
use Rattle.ascent.specs.Ascend.{span}
use Rattle.ascent.specs.declared.Stretch.{Stretch}
use Rattle.named.specs.Listed.{Listed, Grained}
use Rattle.window.specs.TakenRuns.{run_more, run_stop}
use Rattle.named.proofs.Named.{tables_named, entry_ends, entry_inside}
use Rattle.named.proofs.NamedGrains.{grain_at_lem}

-- the areas, as functions mark them
regroup : (a b c d e f g i j : List Area) → a ++ (b ++ (c ++ (d ++ (e ++ (f ++ (g ++ (i ++ j))))))) ≡ (((a ++ b) ++ (c ++ d))
    ++ ((e ++ f) ++ (g ++ i)))
    ++ j
regroup a b c d e f g i j = simp append_assoc

pub areas_grouped : (s : List ℕ) (h : Header) → areas s h ≡ beside_grains s h false ++ grain_areas s h
unfolding areas beside_grains front_areas head_areas directory_areas tables_of back_areas pick
areas_grouped s h =
    regroup (header_area h) (descriptor_area h) (directory_area h) (redundant_area h) (primary_tables s h)
    (redundant_tables s h)
    (footer_area s h) (last_area s h) (grain_areas s h)

module _ (s : List ℕ) (h : Header) (i : InFile s h) where
  groups : Inside s h
  groups = groups_in s h i.inside

  directory_in : h.directory + h.directory_sectors ≤ file_sectors s
  directory_in = (one_in (file_sectors s) _ [] groups.directory).0

  pub fixed_ends : length s < 2 ^ 64 → Ends h
  fixed_ends fit =
      record {
        descriptor = λ t. omega (arith, there_in (file_sectors s) _ _ groups.descriptor t);
        directory = omega (arith, directory_in);
        redundant = λ t. omega (arith, there_in (file_sectors s) _ _ groups.redundant t);
      }

  -- ---- tables
  some_table : 1 ≤ h.table_sectors
  some_table = omega (arith, i.sound.some, i.sound.table)

  module _ (n : ℕ) (e : n ≡ directory_entries_of h) where
    pub tables_listed : Listed s (least_sector h.one_is_zero) false h.table_sectors h.directory n
    tables_listed =
        record {
          some = some_table;
          read = omega (arith, i.sound.directory, directory_in);
          inside = rw (tables_named s h.one_is_zero _ refl h.table_sectors h.directory n, e) groups.tables;
        }

    pub copies_listed : eqb h.redundant 0 ≡ false
        → Listed s (least_sector h.one_is_zero) false h.table_sectors h.redundant n
    copies_listed q =
        let there = eqb-false h.redundant 0 q in
        record {
          some = some_table;
          read = omega (arith, i.sound.directory, redundant_in (file_sectors s) h groups.redundant there);
          inside =
              rw (tables_named s h.one_is_zero _ refl h.table_sectors h.redundant n, e)
              (rw (redundant_tables_lem s h there) at groups.copies);
        }

  -- ---- grains
  module _ (d : ℕ) (l : d * h.entries_per_table < grains_of h) where
    in_use : d < directory_entries_of h
    in_use = table_used h.capacity h.grain_size i.sound.sizes.low h.entries_per_table i.sound.some d l

    entry_in : 512 * h.directory + 4 * d + 4 ≤ length s
    entry_in = omega (arith, in_use, i.sound.directory, directory_in)

    module _ (hi : least_sector h.one_is_zero ≤ entry_at s h.directory d) where
      table_in : entry_at s h.directory d + h.table_sectors ≤ file_sectors s
      unfolding grain_sectors pick
      table_in =
          entry_ends s (least_sector h.one_is_zero) false h.table_sectors h.directory d _ refl some_table
          (entry_inside s _ _ _ _ _ d (tables_listed (directory_entries_of h) refl) in_use) hi

      grain_in : (k : ℕ) → k < h.entries_per_table → d * h.entries_per_table + k < grains_of h
          → runs_past (file_sectors s) (entry_area s (least_sector h.one_is_zero) h.packed h.grain_size
          (entry_at s h.directory d) k) ≡ false
      unfolding pick grain_named
      grain_in k lt g =
          rw (
            grain_at_lem s h.one_is_zero h.packed _ h.grain_size h.entries_per_table h.directory _ d refl
                refl k lt,
            le-ltb _ _ hi,
          )
          at (rows_in (file_sectors s) (grains_of h) (grain_area s h) groups.grains (d * h.entries_per_table + k) g)

  pub grained : (all : ℕ) → all ≡ ceil h.capacity h.grain_size
      → Grained s h.one_is_zero h.packed h.grain_size h.entries_per_table h.directory all
  unfolding grains
  grained all e =
      record {
        few = omega (arith, grains_few h.capacity h.grain_size i.sound.sizes.low, i.sound.sizes.small);
        some = i.sound.some;
        most = i.sound.few;
        entry = λ d l. entry_in d (rw e at l);
        table = λ d l hi.
            record {
              some = i.sound.sizes.low;
              read = omega (arith, table_in d (rw e at l) hi, i.sound.table);
              inside = in_rows (file_sectors s) _ _ (λ k b. grain_in d (rw e at l) hi k (omega arith) (omega arith));
            };
      }

-- tables are listed unless they are left out
pub kept_listed : (s : List ℕ) (out one_is_zero : Bool) (sectors directory n : ℕ)
    → (out ≡ false → Listed s (least_sector one_is_zero) false sectors directory n) → out ≡ false
    → Listed s (least_sector one_is_zero) false sectors directory n
kept_listed s out one_is_zero sectors directory n f q = f q

-- ---- the runs of groups, as the code puts them together
module _ (lo : ℕ) (s : List ℕ) (h : Header) (ws : List ℕ) where
  module _ (xs : List ℕ) (r : Bool) where
    -- tables that are left out, or not
    module _ (out one_is_zero : Bool) (sectors directory n : ℕ) where
      pub run_out : out ≡ true → Run lo ws (pick out [] (table_areas s one_is_zero sectors directory n)) ws false
      unfolding pick
      run_out t = rw t done

      pub run_kept : out ≡ false → Run lo ws (table_areas s one_is_zero sectors directory n) xs r
          → Run lo ws (pick out [] (table_areas s one_is_zero sectors directory n)) xs r
      unfolding pick
      run_kept f g = rw f g

    module _ (between : Bool) (n : ℕ) (e : n ≡ directory_entries_of h)
        (g : Run lo ws (pick between [] (table_areas s h.one_is_zero h.table_sectors h.directory n)) xs r) where
      pub tables_stop : r ≡ true → Run lo ws (tables_of s h between) xs true
      unfolding tables_of
      tables_stop t = run_stop _ (rw e at g) t

      pub tables_all : (ys : List ℕ) (q : Bool) → r ≡ false
          → Run lo xs
          (pick (eqb h.redundant 0) [] (table_areas s h.one_is_zero h.table_sectors h.redundant n)) ys q
          → Run lo ws (tables_of s h between) ys q
      unfolding tables_of redundant_tables
      tables_all ys q f k = run_more (rw e at g) f (rw e at k)

    -- the stretch comes last
    pub stretch_run : (ys : List ℕ) (q : Bool) (n : ℕ) (st : Stretch) (l : List Area) → Run lo ws l xs r → r ≡ false
        → n ≡ st.end - st.first → Run lo xs (area st.first n ∷ []) ys q → Run lo ws (l ++ (span st ∷ [])) ys q
    stretch_run ys q n st l g f e k = run_more g f (rw e at k)

    -- by the walk that was matched
    pub walk_as : (walk way : Walk) → walk ≡ way → Run lo ws (walked s h way) xs r → Run lo ws (walked s h walk) xs r
    walk_as walk way e g = rw e g

    pub grains_run : (all : ℕ) → all ≡ ceil h.capacity h.grain_size
        → Run lo ws (rows all (grain_named s h.one_is_zero h.packed h.grain_size h.entries_per_table
        h.directory)) xs r
        → Run lo ws (grain_areas s h) xs r
    unfolding grains grain_named
    grains_run all e g = rw e at g

    module _ (a : ℕ) (e : a ≡ file_sectors s - 2) (g : Run lo ws (if_there h.footer (area a 1)) xs r) where
      pub back_stop : r ≡ true → Run lo ws (back_areas s h) xs true
      unfolding back_areas
      back_stop t = run_stop _ (rw e at g) t

      pub back_all : (b : ℕ) (ys : List ℕ) (q : Bool) → r ≡ false → b ≡ file_sectors s - 1
          → Run lo xs (if_there h.footer (area b 1)) ys q
          → Run lo ws (back_areas s h) ys q
      unfolding back_areas
      back_all b ys q t f k = run_more (rw e at g) t (rw f at k)
